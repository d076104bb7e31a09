use Rattle.pcl_messages.proofs.Names.{rules}
use Rattle.pcl_messages.proofs.faults.fault_status.Goals as goal

pub returns-in-Refused : goal.returns-in-Refused
returns-in-Refused c = search rules
