use Rattle.pcl_check.proofs.Names.{AreRunStops}
use Rattle.pcl_check.proofs.places.fill.fill_run_stops.Given as goal

abbrev pub invariant-loop-place : goal.invariant-loop-place
invariant-loop-place l = AreRunStops l.row l.ends l.place
