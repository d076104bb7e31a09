use Rattle.pcl_base.proofs.Names.{rules}
use Rattle.pcl_base.proofs.operation.Operation.takes_data.Goals as goal

pub returns-in_default : goal.returns-in_default
returns-in_default c = search rules
