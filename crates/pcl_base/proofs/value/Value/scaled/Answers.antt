use Rattle.pcl_base.proofs.Names.{rules}
use Rattle.pcl_base.proofs.value.Value.scaled.Goals as goal

pub returns : goal.returns
returns c = search rules
