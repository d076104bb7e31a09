use Rattle.pcl_coders.proofs.Ends.{AreSameFrom}
use Rattle.pcl_coders.proofs.fill.differing_len.Given as goal

abbrev pub invariant-loop-len : goal.invariant-loop-len
invariant-loop-len l = AreSameFrom l.old l.row l.len

abbrev pub decreases-loop-len : goal.decreases-loop-len
decreases-loop-len l = l.len
