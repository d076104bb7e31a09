use Rattle.pcl_escape.proofs.Again.{reading_of, fault_of_scan}
use Rattle.pcl_escape.proofs.job.read_job.Goals as goal

pub returns-in-Ok-clause-reading : goal.returns-in-Ok-clause-reading
returns-in-Ok-clause-reading c = reading_of c.in-Ok.ensures

pub returns-clause-fault : goal.returns-clause-fault
returns-clause-fault c = fault_of_scan c.args.profile c.args.job.now c.in-Err.fault _ c.in-Err.ensures
