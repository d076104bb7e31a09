use Rattle.pcl_check.proofs.Names.{length}
use Rattle.pcl_check.proofs.Comparing.{IsBodyReadTo}
use Rattle.pcl_check.proofs.reading.body.read_body.Given as goal

abbrev pub invariant-loop-place : goal.invariant-loop-place
invariant-loop-place l = IsBodyReadTo l.comparison.bitmap.now l.comparison.size l.fn.text l.fn.is_same l.place l.above

abbrev pub decreases-loop-place : goal.decreases-loop-place
decreases-loop-place l = length l.place.text.now
