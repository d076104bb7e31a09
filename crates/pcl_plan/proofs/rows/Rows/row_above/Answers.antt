use Rattle.std.proofs.Common.{◌≡◌, take, ap, ◌∙◌, arith}
use Rattle.pcl_plan.proofs.Names.{take-replicate, row_above, rows_of}
use Rattle.pcl_plan.proofs.rows.Rows.row_above.Goals as goal

pub returns-else-y-gt0-clause-row : goal.returns-else-y-gt0-clause-row
returns-else-y-gt0-clause-row c =
    let rows = c.args.self.now in
    let topmost : 0 ≡ c.args.y = omega arith in
    ap (take rows.width) c.requires.zeros ∙ take-replicate rows.width 600 0 rows.small ∙ ap (row_above rows.width (rows_of rows)) topmost
