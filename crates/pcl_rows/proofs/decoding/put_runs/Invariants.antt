use Rattle.std.proofs.Common.{◌≤◌, ◌*◌, length, drop}
use Rattle.pcl_rows.proofs.Names.{Runs}
use Rattle.pcl_rows.proofs.Readings.{IsTreatedTo}
use Rattle.pcl_rows.proofs.decoding.put_runs.Given as goal

abbrev pub invariant-loop-pair : goal.invariant-loop-pair
invariant-loop-pair l =
    record { within : l.place ≤ length l.row; treated : IsTreatedTo Runs l.bytes l.fn.row (drop (2 * l.pair) l.bytes) l.row l.place }
