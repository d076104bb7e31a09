use Rattle.pcl_bitmap.proofs.KernelLanes.{AreZerosFrom}
use Rattle.pcl_bitmap.proofs.kernels.trimmed_len.Given as goal

abbrev pub invariant-loop-len : goal.invariant-loop-len
invariant-loop-len l = AreZerosFrom l.row l.len

abbrev pub decreases-loop-len : goal.decreases-loop-len
decreases-loop-len l = l.len

abbrev pub invariant-loop-len-2 : goal.invariant-loop-len-2
invariant-loop-len-2 l = AreZerosFrom l.row l.len

abbrev pub decreases-loop-len-2 : goal.decreases-loop-len-2
decreases-loop-len-2 l = l.len
