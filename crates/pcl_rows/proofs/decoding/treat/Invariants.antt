use Rattle.std.proofs.Common.{◌≤◌, length}
use Rattle.pcl_rows.proofs.Readings.{IsTreatedTo}
use Rattle.pcl_rows.proofs.Ends.{AreBytes}
use Rattle.pcl_rows.proofs.decoding.treat.Given as goal

abbrev pub invariant-loop-rest : goal.invariant-loop-rest
invariant-loop-rest l = record {
  within : l.place ≤ length l.row;
  treated : IsTreatedTo l.method l.bytes l.fn.row l.rest l.row l.place;
  bytes : AreBytes l.rest;
}

abbrev pub decreases-loop-rest : goal.decreases-loop-rest
decreases-loop-rest l = length l.rest
