use Rattle.std.proofs.Common.{◌≡◌, ◌-◌, length, arith}
use Rattle.pcl_bitmap.proofs.KernelLanes.{AreSameTo, same_more}
use Rattle.pcl_bitmap.proofs.kernels.first_difference.Goals as goal

pub returns-then-same-lt32 : goal.returns-then-same-lt32
returns-then-same-lt32 c =
    let to = same_more c.loop-place.invariant (omega (arith, c.same_lanes-same.ensures.within)) c.same_lanes-same.ensures.same in
    record { within = to.within; same = to.same; differs = λ inside. c.same_lanes-same.ensures.differs c.if-same-lt32.true }

pub loop-place-preserved : goal.loop-place-preserved
loop-place-preserved c =
    let all : c.same_lanes-same.result ≡ 32 = omega (arith, c.same_lanes-same.ensures.within, c.if-same-lt32.false) in
    rw all at (same_more c.loop-place.invariant (omega (arith, c.same_lanes-same.ensures.within)) c.same_lanes-same.ensures.same)

pub returns-then-a-ge32 : goal.returns-then-a-ge32
returns-then-a-ge32 c =
    let front : AreSameTo c.args.a.now c.args.b.now (length c.args.a.now - 32) =
    record { within = omega arith; same = λ k below. c.loop-place.invariant.same k (omega (arith, c.loop-place-test.false)) } in
    let to = same_more front (omega (arith, c.same_lanes-count.ensures.within)) c.same_lanes-count.ensures.same in
    record { within = to.within; same = to.same; differs = λ inside. c.same_lanes-count.ensures.differs (omega arith) }
