use Rattle.pcl_escape.proofs.Again.{job_known}
use Rattle.pcl_escape.proofs.job.some_outcome.Goals as goal

pub returns : goal.returns
returns c = λ profile job. job_known profile job
