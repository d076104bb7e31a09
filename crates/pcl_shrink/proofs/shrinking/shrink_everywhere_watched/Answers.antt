use Rattle.pcl_shrink.proofs.Written.{everywhere_by_stated}
use Rattle.pcl_shrink.proofs.shrinking.shrink_everywhere_watched.Goals as goal

pub returns-in-Stated : goal.returns-in-Stated
returns-in-Stated g c =
    rw c.in-Stated.is
    (everywhere_by_stated c.args.job.now c.args.terms.readers c.shrink_everywhere_by.result
    (rw c.in-Stated.is at c.shrink_everywhere_by.ensures))
