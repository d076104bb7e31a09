use Rattle.std.proofs.Common.{ℕ, ◌+◌, ◌<◌, ◌≤◌}
use Rattle.pcl_check.proofs.Names.{slice_index}
use Rattle.pcl_check.proofs.places.steady.take_later.Given as goal

abbrev pub invariant-loop-place : goal.invariant-loop-place
invariant-loop-place l = record {
  here : (k : ℕ) → slice_index l.least k ≤ slice_index l.fn.least k;
  beyond : (k : ℕ) → k < l.place → slice_index l.least k ≤ slice_index l.fn.least (k + l.count);
}
