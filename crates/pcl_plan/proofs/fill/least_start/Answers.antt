use Rattle.std.proofs.Common.{◌+◌, false, arith}
use Rattle.pcl_plan.proofs.Names.{node}
use Rattle.pcl_plan.proofs.fill.least_start.Goals as goal

pub overflow_add-sent : goal.overflow_add-sent
overflow_add-sent c =
    let after = c.requires.readable.small (node (c.args.row + 1) c.args.method false) (omega arith) c.requires.readable.next in
    omega (arith, c.row_cost.ensures.small, c.number.ensures)
