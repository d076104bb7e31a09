use Rattle.pcl_check.proofs.Names.{AreStartEnds}
use Rattle.pcl_check.proofs.places.fill.fill_start_ends.Given as goal

abbrev pub invariant-loop-place : goal.invariant-loop-place
invariant-loop-place l = AreStartEnds l.old l.row l.ends l.place
