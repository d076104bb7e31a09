use Rattle.std.proofs.Common.{◌≡◌, take}
use Rattle.pcl_shrink.proofs.Names.{asks_of, asked_pages, least_of}
use Rattle.pcl_shrink.proofs.raster_jobs.asked_job.Given as goal

-- the pages so far are written
abbrev pub invariant-loop-number : goal.invariant-loop-number
invariant-loop-number l = l.out.items ≡ asked_pages (asks_of l.asks) 0 (least_of (take l.number l.texts))
