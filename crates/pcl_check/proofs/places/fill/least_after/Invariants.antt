use Rattle.std.proofs.Common.{ℕ, ◌-◌}
use Rattle.pcl_check.proofs.Names.{IsLeastLen}
use Rattle.pcl_check.proofs.places.fill.least_after.Given as goal

abbrev pub invariant-loop-len : goal.invariant-loop-len
invariant-loop-len l = (best : ℕ) × IsLeastLen l.numbers 1 (l.len - 1) 0 1 best l.least
