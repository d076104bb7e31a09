use Rattle.pcl_bitmap.proofs.Names.{arith}
use Rattle.pcl_bitmap.proofs.KernelLanes.{zeros_more}
use Rattle.pcl_bitmap.proofs.kernels.trimmed_len.Goals as goal

pub loop-len-preserved : goal.loop-len-preserved
loop-len-preserved c =
    zeros_more c.loop-len.invariant (omega (arith, c.loop-len-test.true)) (λ k below.
    c.lanes_of.ensures.same k (omega (arith, c.if-lanes_of-eq32.true)))
