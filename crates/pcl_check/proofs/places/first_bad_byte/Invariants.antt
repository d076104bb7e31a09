use Rattle.std.proofs.Common.{ℕ, ◌<◌}
use Rattle.pcl_check.proofs.Names.{IsGoodByte}
use Rattle.pcl_check.proofs.places.first_bad_byte.Given as goal

abbrev pub invariant-loop-place : goal.invariant-loop-place
invariant-loop-place l = (k : ℕ) → k < l.place → IsGoodByte l.numbers k
