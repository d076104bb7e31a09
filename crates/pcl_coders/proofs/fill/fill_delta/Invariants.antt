use Rattle.std.proofs.Common.{◌<◌}
use Rattle.pcl_coders.proofs.Names.{Delta, AreRightFrom}
use Rattle.pcl_coders.proofs.Places.{IsNextStart}
use Rattle.pcl_coders.proofs.fill.fill_delta.Given as goal

abbrev pub invariant-loop-place : goal.invariant-loop-place
invariant-loop-place l = record {
  right : AreRightFrom Delta l.old l.row l.out l.place;
  next : l.place < l.end → IsNextStart l.old l.row l.out l.place l.place l.start l.best;
}
