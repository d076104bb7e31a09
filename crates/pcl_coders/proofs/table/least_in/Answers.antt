use Rattle.std.proofs.Common.{sym, ◌∙◌}
use Rattle.pcl_coders.proofs.Filling.{table_is_least, first_is_least}
use Rattle.pcl_coders.proofs.table.least_in.Goals as goal

pub returns : goal.returns
returns c =
    let first = first_is_least c.args.method c.args.seed.now c.args.row.now c.fill_before.new.out c.requires.codable
    (table_is_least c.requires.codable.same_size (c.fill_before.auto.out ∙ c.requires.size) c.fill_before.ensures) in
    rw (sym c.from.ensures) at first
