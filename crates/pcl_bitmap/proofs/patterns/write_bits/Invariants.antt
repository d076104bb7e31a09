use Rattle.std.proofs.Common.{◌≡◌, ℕ, ◌+◌, ◌*◌, ◌<◌}
use Rattle.pcl_bitmap.proofs.Names.{dot_of_row}
use Rattle.pcl_bitmap.proofs.patterns.write_bits.Given as goal

-- the bytes before are written
abbrev pub invariant-loop-i : goal.invariant-loop-i
invariant-loop-i l = (k : ℕ) → k < 8 * l.i → dot_of_row l.target k ≡ dot_of_row l.row (l.start + k)
