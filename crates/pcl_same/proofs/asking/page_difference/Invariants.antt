use Rattle.std.proofs.Common.{◌≡◌, take}
use Rattle.pcl_same.proofs.asking.page_difference.Given as goal

abbrev pub invariant-loop-place : goal.invariant-loop-place
invariant-loop-place l = take l.place l.first ≡ take l.place l.second
