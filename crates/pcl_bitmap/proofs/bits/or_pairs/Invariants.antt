use Rattle.std.proofs.Common.{◌≡◌, ℕ, ◌-◌, ◌*◌, ◌&&◌, ◌||◌}
use Rattle.pcl_bitmap.proofs.Names.{dot_of_row, in_run}
use Rattle.pcl_bitmap.proofs.bits.or_pairs.Given as goal

-- the part is in place up to byte i
abbrev pub invariant-loop-i : goal.invariant-loop-i
invariant-loop-i l =
    (k : ℕ) → dot_of_row l.target k
    ≡ ((in_run (8 * l.first) (8 * l.i) k && dot_of_row l.source (k - l.from)) || dot_of_row l.initial.target k)
