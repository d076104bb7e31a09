use Rattle.pcl_page.proofs.Names.{rules}
use Rattle.pcl_page.proofs.interpreter.Interpreter.enter.Goals as goal

pub returns-in_default : goal.returns-in_default
returns-in_default c = search rules depth 2

pub returns-in-Ok : goal.returns-in-Ok
returns-in-Ok c = search rules depth 2

pub returns-in-Err : goal.returns-in-Err
returns-in-Err c = search rules depth 2
