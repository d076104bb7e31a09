use Rattle.pcl_page.proofs.Names.{rules}
use Rattle.pcl_page.proofs.job.CollectedPageSink.page.Goals as goal

pub returns-clause-taken : goal.returns-clause-taken
returns-clause-taken c = (_, search rules, c.in_ok-try_clone.ensures)
