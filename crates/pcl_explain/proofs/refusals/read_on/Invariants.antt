use Rattle.std.proofs.Common.{◌≡◌}
use Rattle.pcl_explain.proofs.refusals.read_on.Given as goal

abbrev pub invariant-loop : goal.invariant-loop
invariant-loop l = l.found.first.refusal ≡ l.fn.first
