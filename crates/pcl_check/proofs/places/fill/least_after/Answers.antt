use Rattle.std.proofs.Common.{◌≡◌, ◌+◌, ◌-◌, arith}
use Rattle.pcl_check.proofs.Names.{least_min_next}
use Rattle.pcl_check.proofs.places.fill.least_after.Goals as goal

pub loop-len-preserved : goal.loop-len-preserved
loop-len-preserved c =
    let is = least_min_next c.min-least.result (omega (arith, c.loop-len.auto.len))
    c.loop-len.invariant (omega (arith, c.min-least.ensures, c.from.ensures)) in
    let same : c.loop-len.len + 1 - 1 ≡ c.loop-len.len = omega arith in (is.0, rw same is.1)
