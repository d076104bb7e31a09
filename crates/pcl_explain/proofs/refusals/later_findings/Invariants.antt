use Rattle.std.proofs.Common.{◌≡◌}
use Rattle.pcl_explain.proofs.refusals.later_findings.Given as goal

abbrev pub invariant-loop : goal.invariant-loop
invariant-loop l = l.found.first.refusal ≡ l.fn.found.first.refusal
