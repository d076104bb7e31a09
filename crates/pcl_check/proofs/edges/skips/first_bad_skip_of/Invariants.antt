use Rattle.std.proofs.Common.{◌≡◌, ℕ, ◌+◌, ◌<◌, length}
use Rattle.pcl_check.proofs.Names.{rest, node_number, AreGoodSkipsOf}
use Rattle.pcl_check.proofs.StepWindows.{IsStepWindow}
use Rattle.pcl_check.proofs.edges.skips.first_bad_skip_of.Given as goal

abbrev pub invariant-loop-row : goal.invariant-loop-row
invariant-loop-row l = record {
  good : (k : ℕ) → k < l.row → AreGoodSkipsOf l.ends (node_number l.table) l.method l.digits l.most k;
  window : IsStepWindow l.ends (λ y. rest (node_number l.table) y l.method) l.most l.window.numbers l.row l.stop;
  room : l.window.room + l.stop ≡ length l.ends;
}
