use Rattle.std.proofs.Common.{◌-◌, length}
use Rattle.pcl_coders.proofs.Filling.{IsAppendedTo}
use Rattle.pcl_coders.proofs.table.append_steps.Given as goal

abbrev pub invariant-loop-place : goal.invariant-loop-place
invariant-loop-place l = IsAppendedTo l.method l.old l.row l.numbers l.fn.out.items l.out.items l.place

abbrev pub decreases-loop-place : goal.decreases-loop-place
decreases-loop-place l = length l.row - l.place
