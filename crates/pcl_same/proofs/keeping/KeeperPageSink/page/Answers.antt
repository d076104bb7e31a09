use Rattle.pcl_same.proofs.Names.{rules}
use Rattle.pcl_same.proofs.keeping.KeeperPageSink.page.Goals as goal

pub returns-clause-taken : goal.returns-clause-taken
returns-clause-taken c = (_, search rules, c.in_ok-new.ensures)
