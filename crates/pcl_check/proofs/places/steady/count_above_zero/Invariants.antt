use Rattle.std.proofs.Common.{◌≤◌}
use Rattle.pcl_check.proofs.places.steady.count_above_zero.Given as goal

abbrev pub invariant-loop-number : goal.invariant-loop-number
invariant-loop-number l = l.count ≤ l.number-index
