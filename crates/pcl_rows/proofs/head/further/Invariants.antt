use Rattle.std.proofs.Common.{◌≡◌, take, replicate}
use Rattle.pcl_rows.proofs.head.further.Given as goal

abbrev pub invariant-loop-full : goal.invariant-loop-full
invariant-loop-full l = take l.full l.bytes ≡ replicate l.full 255
