use Rattle.std.proofs.Common.{◌≡◌, ℕ}
use Rattle.pcl_bitmap.proofs.Names.{bit_at}
use Rattle.pcl_bitmap.proofs.Spread.{spread_bit}
use Rattle.pcl_bitmap.proofs.squares.spread_bits.Given as goal

-- the bits below bit i are spread
abbrev pub invariant-loop-i : goal.invariant-loop-i
invariant-loop-i l = (j : ℕ) → bit_at l.wide j ≡ spread_bit l.byte l.scale l.i j
