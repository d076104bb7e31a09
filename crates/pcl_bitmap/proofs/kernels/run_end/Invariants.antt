use Rattle.std.proofs.Common.{◌-◌, length}
use Rattle.pcl_bitmap.proofs.KernelLanes.{IsRunTo}
use Rattle.pcl_bitmap.proofs.kernels.run_end.Given as goal

abbrev pub invariant-loop-place : goal.invariant-loop-place
invariant-loop-place l = IsRunTo l.row l.from l.place

abbrev pub decreases-loop-place : goal.decreases-loop-place
decreases-loop-place l = length l.row - l.place

abbrev pub invariant-loop-place-2 : goal.invariant-loop-place-2
invariant-loop-place-2 l = IsRunTo l.row l.from l.place

abbrev pub decreases-loop-place-2 : goal.decreases-loop-place-2
decreases-loop-place-2 l = length l.row - l.place
