use Rattle.std.proofs.Common.{ℕ, ◌+◌, ◌<◌, ◌≤◌}
use Rattle.pcl_check.proofs.Names.{slice_index}
use Rattle.pcl_check.proofs.places.steady.greatest_excess.Given as goal

abbrev pub invariant-loop-place : goal.invariant-loop-place
invariant-loop-place l = (k : ℕ) → k < l.place → k + slice_index l.numbers k ≤ slice_index l.least (k + 1) + l.excess
