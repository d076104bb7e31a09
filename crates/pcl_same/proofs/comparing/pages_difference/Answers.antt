use Rattle.std.proofs.Common.{◌≡◌, length, arith}
use Rattle.pcl_same.proofs.Names.{take-length}
use Rattle.pcl_same.proofs.Concluded.{next_alike, first_found}
use Rattle.pcl_same.proofs.comparing.pages_difference.Goals as goal

pub loop-before-init : goal.loop-before-init
loop-before-init c = tt

pub returns-in-Some : goal.returns-in-Some
returns-in-Some c = (c.if-found-count.false, first_found c.args.found.now c.loop-before-test.true c.loop-before.invariant c.in-Some.is)

pub loop-before-preserved : goal.loop-before-preserved
loop-before-preserved c = next_alike c.args.found.now c.loop-before-test.true c.loop-before.invariant c.in_default.is

pub returns : goal.returns
returns c =
    let found = c.args.found.now in
    let all : c.loop-before.before ≡ length found = omega (arith, c.loop-before-test.false, c.loop-before.auto.before-end) in (
      c.if-found-count.false,
      rw (all, take-length found) at c.loop-before.invariant,
    )
