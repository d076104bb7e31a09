use Rattle.pcl_output.proofs.Names.{arith, Plain, Runs}
use Rattle.pcl_output.proofs.Switching.{least_switch, switched_numbers}
use Rattle.pcl_output.proofs.table.RowNumbers.from_direct.Goals as goal

pub overflow_add-direct : goal.overflow_add-direct
overflow_add-direct c = omega (arith, c.requires Plain)

pub overflow_add-others : goal.overflow_add-others
overflow_add-others c = omega (arith, c.requires Runs, c.min.ensures, c.min-others.ensures)

pub returns : goal.returns
returns c =
    let least = least_switch c.min.ensures c.min-others.ensures c.min-switched.ensures in
    switched_numbers least c.at_most-inside.ensures c.plus-outside.ensures
