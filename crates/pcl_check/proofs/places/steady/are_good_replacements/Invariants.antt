use Rattle.std.proofs.Common.{◌≢◌, ℕ, ◌<◌, ◌≤◌}
use Rattle.pcl_check.proofs.Names.{slice_index, AreGoodReplacements}
use Rattle.pcl_check.proofs.places.steady.are_good_replacements.Given as goal

abbrev pub invariant-loop-place : goal.invariant-loop-place
invariant-loop-place l = record {
  order : l.place < l.end → l.place ≤ l.start;
  before : l.place < l.end → l.start < l.end;
  differs : l.place < l.end → slice_index l.old l.start ≢ slice_index l.row l.start;
  good : (k : ℕ) → l.place ≤ k → AreGoodReplacements l.old l.row l.numbers k;
}
