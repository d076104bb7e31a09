use Rattle.pcl_shrink.proofs.Names.{Stated}
use Rattle.std.specs.Prelude.{None}
use Rattle.pcl_shrink.proofs.Written.{accepted_for}
use Rattle.pcl_shrink.proofs.shrinking.shrink_by_either.Goals as goal

pub returns-in-Ok : goal.returns-in-Ok
returns-in-Ok g c =
    let s = c.in-Ok.ensures in (Stated, accepted_for Stated c.args.dpi None c.args.job.now _ c.args.readers _ s, s)
