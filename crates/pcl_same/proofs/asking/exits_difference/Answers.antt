use Rattle.pcl_same.proofs.FirstAsked.{exit_differs, exit_passed}
use Rattle.pcl_same.proofs.asking.exits_difference.Goals as goal

pub returns-in-Some : goal.returns-in-Some
returns-in-Some c =
    exit_differs c.args.first.now c.args.second.now _ c.loop-place-test.true c.if-first-second.false c.loop-place.invariant
    c.in-Some.difference c.in-Some.ensures

pub loop-place-preserved : goal.loop-place-preserved
loop-place-preserved c =
    exit_passed c.args.first.now c.args.second.now _ c.loop-place-test.true c.if-first-second.false c.loop-place.invariant
    c.in_default.ensures
