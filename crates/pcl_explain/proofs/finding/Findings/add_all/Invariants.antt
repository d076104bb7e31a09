use Rattle.std.proofs.Common.{◌≡◌}
use Rattle.pcl_explain.proofs.finding.Findings.add_all.Given as goal

abbrev pub invariant-loop-finding : goal.invariant-loop-finding
invariant-loop-finding l = l.self.first.refusal ≡ l.fn.self.first.refusal
