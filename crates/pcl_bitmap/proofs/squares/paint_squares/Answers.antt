use Rattle.std.proofs.Common.{◌-◌, ◌/◌, zero-add, arith}
use Rattle.pcl_bitmap.proofs.Names.{nat_tests}
use Rattle.pcl_bitmap.proofs.Spread.{spread_count}
use Rattle.pcl_bitmap.proofs.squares.paint_squares.Goals as goal

pub returns-else-scale-eq1-clause-dots : goal.returns-else-scale-eq1-clause-dots
returns-else-scale-eq1-clause-dots c px py within =
    let a = c.args in
    let m = px - a.area.x in
    let room = (spread_count {s = a.scale} (omega arith) c.div_ceil-count.ensures).0 in
    let painted = c.or_rows-else-scale-eq1.ensures.dots px py within in
    rw (← zero-add (m / a.scale)) (grind (arith, nat_tests, painted, c.spread_row.ensures m, room))
