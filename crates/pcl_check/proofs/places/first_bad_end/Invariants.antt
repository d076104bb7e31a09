use Rattle.std.proofs.Common.{◌≤◌, length}
use Rattle.pcl_check.proofs.Names.{IsGoodEnd, AreSameFrom}
use Rattle.pcl_check.proofs.PlacesFound.{FindsFrom}
use Rattle.pcl_check.proofs.places.first_bad_end.Given as goal

abbrev pub invariant-loop-place : goal.invariant-loop-place
invariant-loop-place l = record {
  found : FindsFrom (IsGoodEnd l.old l.row l.numbers) l.place (length l.row) l.found;
  same : l.place ≤ length l.row → AreSameFrom l.old l.row l.place;
}
