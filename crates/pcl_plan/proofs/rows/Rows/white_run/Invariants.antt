use Rattle.std.proofs.Common.{◌+◌, ◌-◌, ◌≤◌, take, drop}
use Rattle.pcl_plan.proofs.Names.{AreWhite, rows_of}
use Rattle.pcl_plan.proofs.rows.Rows.white_run.Given as goal

abbrev pub invariant-loop-run : goal.invariant-loop-run
invariant-loop-run l = record { within : l.y + l.run ≤ l.self.count; white : AreWhite (take l.run (drop l.y (rows_of l.self))) }

abbrev pub decreases-loop-run : goal.decreases-loop-run
decreases-loop-run l = l.self.count - l.run
