use Rattle.std.proofs.Common.{◌≡◌, ℕ, ◌+◌, ◌*◌, ◌/◌, ◌<◌}
use Rattle.pcl_bitmap.proofs.Names.{dot_of_row}
use Rattle.pcl_bitmap.proofs.squares.spread_row.Given as goal

-- the bytes before are spread
abbrev pub invariant-loop-i : goal.invariant-loop-i
invariant-loop-i l = (k : ℕ) → k < 8 * (l.scale * l.i) → dot_of_row l.target k ≡ dot_of_row l.row (8 * l.first + k / l.scale)
