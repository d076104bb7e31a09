use Rattle.pcl_coders.proofs.Names.{refl}
use Rattle.pcl_coders.proofs.coder.RunsRowCoder.method.Goals as goal

pub returns : goal.returns
returns c = refl
