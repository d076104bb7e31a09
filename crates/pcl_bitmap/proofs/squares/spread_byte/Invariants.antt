use Rattle.std.proofs.Common.{◌≡◌, ℕ, ◌+◌, ◌-◌, ◌*◌, ◌/◌, if◌then◌else◌}
use Rattle.pcl_bitmap.proofs.Names.{bit_of_byte, dot_of_row, in_run}
use Rattle.pcl_bitmap.proofs.squares.spread_byte.Given as goal

-- the parts before are in place
abbrev pub invariant-loop-part : goal.invariant-loop-part
invariant-loop-part l =
    (k : ℕ) → dot_of_row l.target k ≡ (if in_run (8 * l.at) (8 * (l.at + l.part)) k then bit_of_byte l.byte ((k - 8 * l.at) / l.scale)
    else dot_of_row l.initial.target k)
