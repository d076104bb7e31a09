use Rattle.std.proofs.Common.{◌≡◌, ℕ, ◌+◌, ◌<◌}
use Rattle.pcl_check.proofs.Names.{slice_index, IsNotUndercut}
use Rattle.pcl_check.proofs.StepWindows.{IsStepWindow}
use Rattle.pcl_check.proofs.places.windows.first_undercut.Given as goal

abbrev pub invariant-loop-place : goal.invariant-loop-place
invariant-loop-place l = record {
  good : (k : ℕ) → k < l.place → IsNotUndercut l.numbers l.sums l.ends l.cost l.most k;
  window : IsStepWindow l.ends (slice_index l.sums) l.most l.window.numbers l.place l.stop;
  room : l.window.room + l.stop ≡ 601;
}
