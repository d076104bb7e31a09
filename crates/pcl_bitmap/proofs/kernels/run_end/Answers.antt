use Rattle.std.proofs.Common.{◌≡◌, arith}
use Rattle.pcl_bitmap.proofs.KernelLanes.{run_more}
use Rattle.pcl_bitmap.proofs.kernels.run_end.Goals as goal

pub returns-then-run-lt32 : goal.returns-then-run-lt32
returns-then-run-lt32 c =
    let to = run_more c.loop-place.invariant (omega (arith, c.lanes_of-run.ensures.within)) c.lanes_of-run.ensures.same in
    record { after = to.after; within = to.within; same = to.same; differs = λ inside. c.lanes_of-run.ensures.differs c.if-run-lt32.true }

pub loop-place-preserved : goal.loop-place-preserved
loop-place-preserved c =
    let all : c.lanes_of-run.result ≡ 32 = omega (arith, c.lanes_of-run.ensures.within, c.if-run-lt32.false) in
    rw all at (run_more c.loop-place.invariant (omega (arith, c.lanes_of-run.ensures.within)) c.lanes_of-run.ensures.same)
