use Rattle.std.proofs.Common.{◌≡◌, ℕ, ◌*◌, ◌&&◌, ◌||◌}
use Rattle.pcl_bitmap.proofs.Names.{dot_of_row, in_run, run_dot}
use Rattle.pcl_bitmap.proofs.bits.or_part.Given as goal

-- the part is in place up to byte i
abbrev pub invariant-loop-i : goal.invariant-loop-i
invariant-loop-i l =
    (k : ℕ) → dot_of_row l.target k
    ≡ ((in_run (8 * l.first) (8 * l.i) k && run_dot l.from l.end l.source k) || dot_of_row l.initial.target k)
