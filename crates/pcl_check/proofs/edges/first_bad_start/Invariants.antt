use Rattle.std.proofs.Common.{ℕ, ◌<◌}
use Rattle.pcl_check.proofs.Names.{node_number, IsGoodStart}
use Rattle.pcl_check.proofs.edges.first_bad_start.Given as goal

abbrev pub invariant-loop-row : goal.invariant-loop-row
invariant-loop-row l = (k : ℕ) → k < l.row → IsGoodStart l.ends (node_number l.table) l.method k
