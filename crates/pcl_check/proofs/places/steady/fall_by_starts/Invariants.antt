use Rattle.std.proofs.Common.{◌≡◌, ◌≢◌, ℕ, ◌+◌, ◌<◌, ◌≤◌}
use Rattle.pcl_check.proofs.Names.{slice_index}
use Rattle.pcl_check.proofs.places.steady.fall_by_starts.Given as goal

abbrev pub invariant-loop-place : goal.invariant-loop-place
invariant-loop-place l = record {
  same : (k : ℕ) → k < l.place → slice_index l.old k ≡ slice_index l.row k
      → slice_index l.numbers k ≤ slice_index l.numbers (k + 1) + l.excess;
  differs : (k : ℕ) → k < l.place → slice_index l.old k ≢ slice_index l.row k
      → k + slice_index l.numbers k ≤ 1 + slice_index l.least (k + 1) + l.excess;
}
