use Rattle.pcl_shrink.proofs.Names.{Stated}
use Rattle.pcl_shrink.proofs.Written.{counted_read}
use Rattle.pcl_shrink.proofs.shrinking.everywhere_by_either.Goals as goal

pub returns-in-Ok : goal.returns-in-Ok
returns-in-Ok g c = let s = c.in-Ok.ensures in (Stated, counted_read s.0 s.1 s.2, s)
