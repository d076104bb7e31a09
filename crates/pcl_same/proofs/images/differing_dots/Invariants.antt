use Rattle.pcl_same.proofs.DifferingDots.{DrawnAbove}
use Rattle.pcl_same.proofs.images.differing_dots.Given as goal

abbrev pub invariant-loop-y : goal.invariant-loop-y
invariant-loop-y l = DrawnAbove l.one l.other l.image l.y
