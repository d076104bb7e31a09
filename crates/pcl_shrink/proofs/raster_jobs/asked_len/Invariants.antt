use Rattle.std.proofs.Common.{◌≤◌, length, take}
use Rattle.pcl_shrink.proofs.Names.{asks_of, asked_pages, least_of}
use Rattle.pcl_shrink.proofs.raster_jobs.asked_len.Given as goal

-- no more is counted than the pages so far take
abbrev pub invariant-loop-number : goal.invariant-loop-number
invariant-loop-number l = l.len ≤ length (asked_pages (asks_of l.asks) 0 (least_of (take l.number l.texts)))
