use Rattle.pcl_plan.proofs.Names.{node_number, rows_of}
use Rattle.pcl_plan.proofs.ReadSteps.{IsReadTo}
use Rattle.pcl_plan.proofs.steps.append_steps.Given as goal

abbrev pub invariant-loop-node : goal.invariant-loop-node
invariant-loop-node g l = IsReadTo l.rows.width (rows_of l.rows) l.table l.steps.items l.node

abbrev pub decreases-loop-node : goal.decreases-loop-node
decreases-loop-node g l = node_number l.table l.node
