use Rattle.pcl_shrink.proofs.Written.{shrunk_by_stated}
use Rattle.pcl_shrink.proofs.shrinking.shrink_watched.Goals as goal

pub returns-in-Stated : goal.returns-in-Stated
returns-in-Stated g c =
    rw c.in-Stated.is
    (shrunk_by_stated c.args.dpi c.args.job.now c.args.terms.readers c.shrink_by.result (rw c.in-Stated.is at c.shrink_by.ensures))
