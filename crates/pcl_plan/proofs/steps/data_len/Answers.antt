use Rattle.pcl_plan.proofs.Names.{arith, row_cost_small}
use Rattle.pcl_plan.proofs.DataLengths.{cost_of_none, cost_of_some}
use Rattle.pcl_plan.proofs.steps.data_len.Goals as goal

pub returns-in-0-to-1 : goal.returns-in-0-to-1
returns-in-0-to-1 c = λ bytes small is. cost_of_none bytes small (omega arith)

pub returns-in-2-to-11 : goal.returns-in-2-to-11
returns-in-2-to-11 c = λ bytes small is. omega (arith, cost_of_some 0 bytes small (omega arith) (omega arith))

pub returns-in-12-to-102 : goal.returns-in-12-to-102
returns-in-12-to-102 c = λ bytes small is. omega (arith, cost_of_some 1 bytes small (omega arith) (omega arith))

pub returns-in-103-to-1003 : goal.returns-in-103-to-1003
returns-in-103-to-1003 c = λ bytes small is. omega (arith, cost_of_some 2 bytes small (omega arith) (omega arith))

pub returns-in-1004-to-10004 : goal.returns-in-1004-to-10004
returns-in-1004-to-10004 c = λ bytes small is. omega (arith, cost_of_some 3 bytes small (omega arith) (omega arith))

pub returns-in_default : goal.returns-in_default
returns-in_default c = λ bytes small is. omega (arith, cost_of_some 4 bytes small (omega arith) (omega (arith, row_cost_small bytes small)))
