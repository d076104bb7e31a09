use Rattle.pcl_base.proofs.Names.{rules}
use Rattle.pcl_base.proofs.operation.Operation.with_name.Goals as goal

pub returns-in-Three-eq38-eq97-eq82 : goal.returns-in-Three-eq38-eq97-eq82
unfolding Rattle.pcl_base.specs.Operation.operation_of
returns-in-Three-eq38-eq97-eq82 c = search rules
