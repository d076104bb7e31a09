use Rattle.pcl_base.proofs.Names.{refl}
use Rattle.pcl_messages.proofs.failures.Failure.of.Goals as goal

pub returns-in-Ok : goal.returns-in-Ok
returns-in-Ok c = (c.in-Ok.ensures, c.fault_status.ensures, refl)
