use Rattle.std.proofs.Common.{arith}
use Rattle.pcl_check.proofs.Names.{slice_eq-Decides, Decides-eqb, nat_tests}
use Rattle.pcl_check.proofs.ComparedRows.{first_row, past_rows}
use Rattle.pcl_check.proofs.reading.comparison.Comparison.has_row.Goals as goal

pub returns-then-y-page_height : goal.returns-then-y-page_height
returns-then-y-page_height c =
    let first = first_row c.args.self.now.bitmap.now {y = c.args.y} (omega (arith, c.page_height.ensures)) in
    let equal = slice_eq-Decides Decides-eqb c.row.result.now c.args.row.now c.eq.result c.eq.ensures in
    grind (arith, first, equal, c.row.ensures.bytes)

pub returns-else-y-page_height : goal.returns-else-y-page_height
returns-else-y-page_height c =
    let past = past_rows c.args.self.now.bitmap.now {y = c.args.y} (omega (arith, c.page_height.ensures)) in grind (arith, nat_tests, past)
