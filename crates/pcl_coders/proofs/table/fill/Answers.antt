use Rattle.std.proofs.Common.{◌∙◌}
use Rattle.pcl_coders.proofs.Filling.{table_is_least}
use Rattle.pcl_coders.proofs.table.fill.Goals as goal

pub returns : goal.returns
returns c = table_is_least c.requires.codable.same_size (c.fill_before.auto.out ∙ c.requires.size) c.fill_before.ensures
