use Rattle.std.proofs.Common.{◌∙◌}
use Rattle.pcl_coders.proofs.fill.fill_before.Goals as goal

pub fill_delta-requires : goal.fill_delta-requires
fill_delta-requires c = record {
  same_size = c.requires.codable.same_size;
  small = c.requires.codable.small;
  size = c.clear_from.ensures.size ∙ c.requires.size;
  first_end = rw c.in-Delta.is at c.requires.end;
  zeros = c.clear_from.ensures.zeros;
}

pub returns-in-Delta : goal.returns-in-Delta
returns-in-Delta c = rw c.in-Delta.is c.fill_delta.ensures
