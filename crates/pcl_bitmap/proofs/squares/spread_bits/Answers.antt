use Rattle.std.proofs.Common.{◌/◌, sym, ◌∙◌, arith}
use Rattle.pcl_bitmap.proofs.Names.{nat_tests, shr_and_one, bit_at-lt, bit_at_above}
use Rattle.pcl_bitmap.proofs.Spread.{spread_set}
use Rattle.pcl_bitmap.proofs.squares.spread_bits.Goals as goal
use Rattle.pcl_bitmap.proofs.squares.spread_bits.Goals.{then-byte-i-eq1, else-byte-i-eq1}

pub loop-i-preserved : goal.loop-i-preserved
loop-i-preserved c j =
    let byte = c.args.byte in
    let i = c.loop-i.i in
    elim c.if-byte-i-eq1.branch [
      | then-byte-i-eq1 w ↦
          rw w.wide-is (spread_set c.loop-i.wide byte c.args.scale i j (omega arith) (omega arith) (omega arith)
          (sym (shr_and_one byte i) ∙ w.if-byte-i-eq1.true) (c.loop-i.invariant j))
      | else-byte-i-eq1 w ↦
          rw w.wide-is (grind (arith, nat_tests, c.loop-i.invariant j, bit_at-lt byte i, shr_and_one byte i, w.if-byte-i-eq1.false))
    ]

pub returns : goal.returns
returns c j = grind (arith, nat_tests, c.loop-i.invariant j, bit_at_above c.args.byte 8 (j / c.args.scale) (omega arith))
