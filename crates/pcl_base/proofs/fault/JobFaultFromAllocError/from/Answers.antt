use Rattle.pcl_base.proofs.Names.{refl}
use Rattle.pcl_base.proofs.fault.JobFaultFromAllocError.from.Goals as goal

pub returns : goal.returns
returns c = refl
