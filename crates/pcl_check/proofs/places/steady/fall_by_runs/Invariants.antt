use Rattle.std.proofs.Common.{◌≡◌, ◌≢◌, ℕ, ◌+◌, ◌<◌, ◌≤◌, max}
use Rattle.pcl_check.proofs.Names.{slice_index}
use Rattle.pcl_check.proofs.places.steady.fall_by_runs.Given as goal

abbrev pub invariant-loop-place : goal.invariant-loop-place
invariant-loop-place l = record {
  one : (k : ℕ) → k < l.place → slice_index l.row k ≢ slice_index l.row (k + 1)
      → slice_index l.numbers k ≤ 2 + slice_index l.numbers (k + 1) + l.excess;
  two : (k : ℕ) → k < l.place → slice_index l.row k ≡ slice_index l.row (k + 1) → slice_index l.row (k + 1) ≢ slice_index l.row (k + 2)
      → slice_index l.numbers k ≤ max (slice_index l.numbers (k + 1)) (2 + slice_index l.numbers (k + 2)) + l.excess;
  more : (k : ℕ) → k < l.place → slice_index l.row k ≡ slice_index l.row (k + 1)
      → slice_index l.row (k + 1) ≡ slice_index l.row (k + 2) → slice_index l.numbers k ≤ slice_index l.numbers (k + 1) + l.excess;
}
