use Rattle.pcl_tool.proofs.LeastTexts.{proved_least_job}
use Rattle.pcl_tool.proofs.laws.proved_jobs_are_least.Goals as goal

pub returns : goal.returns
returns c = proved_least_job
