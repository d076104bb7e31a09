use Rattle.pcl_escape.proofs.Names.{rules}
use Rattle.pcl_escape.proofs.step.parameter_name.Goals as goal

pub returns-in-Some : goal.returns-in-Some
returns-in-Some c = search rules

pub returns-in-None : goal.returns-in-None
returns-in-None c = search rules
