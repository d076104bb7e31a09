use Rattle.std.proofs.Common.{◌≡◌, ℕ, ◌+◌, ◌*◌, ◌≤◌, ◌||◌, length}
use Rattle.pcl_bitmap.proofs.Names.{dot_of_row, run_dot}
use Rattle.pcl_bitmap.proofs.bits.or_bytes.Given as goal

-- the bytes are in place up to byte i of the source
abbrev pub invariant-loop-i : goal.invariant-loop-i
invariant-loop-i l = record {
  within : l.i ≤ length l.source;
  bits : (k : ℕ) → dot_of_row l.target k ≡ (run_dot (8 * l.at) (8 * (l.at + l.i)) l.source k || dot_of_row l.initial.target k);
}
