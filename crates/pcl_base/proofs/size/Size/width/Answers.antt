use Rattle.pcl_base.proofs.Names.{rules}
use Rattle.pcl_base.proofs.size.Size.width.Goals as goal

pub returns : goal.returns
returns c = search rules
