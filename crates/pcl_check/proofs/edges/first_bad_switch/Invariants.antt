use Rattle.std.proofs.Common.{ℕ, ◌<◌}
use Rattle.pcl_check.proofs.Names.{node_number, AreGoodSwitches}
use Rattle.pcl_check.proofs.edges.first_bad_switch.Given as goal

abbrev pub invariant-loop-row : goal.invariant-loop-row
invariant-loop-row l = (k : ℕ) → k < l.row → AreGoodSwitches (node_number l.table) l.method k
