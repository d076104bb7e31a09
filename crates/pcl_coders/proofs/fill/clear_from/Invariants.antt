use Rattle.std.proofs.Common.{◌≡◌, ℕ, ◌<◌, ◌≤◌}
use Rattle.pcl_coders.proofs.Names.{slice_index}
use Rattle.pcl_coders.proofs.fill.clear_from.Given as goal

abbrev pub invariant-loop-place : goal.invariant-loop-place
invariant-loop-place l = (q : ℕ) → l.end ≤ q → q < l.place → slice_index l.out q ≡ 0
