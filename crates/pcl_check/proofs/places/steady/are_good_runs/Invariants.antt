use Rattle.std.proofs.Common.{◌≢◌, ℕ, ◌-◌, ◌<◌, ◌≤◌}
use Rattle.pcl_check.proofs.Names.{slice_index, AreGoodRuns}
use Rattle.pcl_check.proofs.places.steady.are_good_runs.Given as goal

abbrev pub invariant-loop-place : goal.invariant-loop-place
invariant-loop-place l = record {
  order : l.place ≤ l.stop;
  within : l.stop ≤ l.end;
  breaks : l.stop < l.end → slice_index l.row (l.stop - 1) ≢ slice_index l.row l.stop;
  good : (k : ℕ) → l.place ≤ k → AreGoodRuns l.row l.numbers l.most k;
}
