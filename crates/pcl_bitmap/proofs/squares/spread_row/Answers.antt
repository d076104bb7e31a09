use Rattle.std.proofs.Common.{◌+◌, ◌-◌, ◌*◌, ◌/◌, ap, ◌∙◌, if◌then◌else◌, arith}
use Rattle.pcl_bitmap.proofs.Names.{bit_of_byte, dot_of_row, in_run}
use Rattle.pcl_bitmap.proofs.Spread.{spread_more}
use Rattle.pcl_bitmap.proofs.squares.spread_row.Goals as goal

pub loop-i-preserved : goal.loop-i-preserved
loop-i-preserved c k =
    let i = c.loop-i.i in
    let s = c.args.scale in
    spread_more c.args.row.now c.loop-i.target c.spread_byte.new.target s c.args.first i k (omega arith) (c.loop-i.invariant k)
    (c.spread_byte.ensures k
    ∙ ap (λ b. if in_run (8 * (s * i)) (8 * (s * i + s)) k then bit_of_byte b ((k - 8 * (s * i)) / s) else dot_of_row c.loop-i.target k)
    c.byte_at.ensures)
