use Rattle.pcl_tool.proofs.LeastTexts.{written_least}
use Rattle.pcl_tool.proofs.laws.written_jobs_are_least.Goals as goal

pub returns : goal.returns
returns c = written_least
