use Rattle.pcl_streams.proofs.Names.{rules}
use Rattle.pcl_streams.proofs.watching.WatchedPageSink.page.Goals as goal

pub returns-clause-taken : goal.returns-clause-taken
returns-clause-taken g c = search rules
