use Rattle.pcl_base.proofs.Names.{rules}
use Rattle.pcl_base.proofs.size.Size.row_bytes.Goals as goal

pub returns : goal.returns
returns c = search rules
