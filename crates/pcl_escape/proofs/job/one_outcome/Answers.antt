use Rattle.pcl_escape.proofs.Again.{reading_again, fault_found_of}
use Rattle.pcl_escape.proofs.job.one_outcome.Goals as goal

pub returns-clause-reading : goal.returns-clause-reading
returns-clause-reading c = λ profile job commands others r s. let a = reading_again r in let b = reading_again s in cc

pub returns-clause-fault : goal.returns-clause-fault
returns-clause-fault c = λ profile job fault other f g. let a = fault_found_of f in let b = fault_found_of g in cc

pub returns-clause-apart : goal.returns-clause-apart
returns-clause-apart c = λ profile job commands fault r f. let a = reading_again r in let b = fault_found_of f in cc
