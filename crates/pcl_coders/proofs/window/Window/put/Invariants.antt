use Rattle.std.proofs.Common.{ℕ, ◌<◌, ◌≤◌}
use Rattle.pcl_coders.proofs.Names.{slice_index}
use Rattle.pcl_coders.proofs.window.Window.put.Given as goal

abbrev pub invariant-loop-stop : goal.invariant-loop-stop
invariant-loop-stop l = record {
  order : l.self-inside.first ≤ l.stop;
  within : l.stop ≤ l.self-inside.stop;
  above : (k : ℕ) → l.stop ≤ k → k < l.self-inside.stop
      → l.number ≤ slice_index l.self-inside.numbers.now (slice_index l.self-inside.places.now k);
}

abbrev pub decreases-loop-stop : goal.decreases-loop-stop
decreases-loop-stop l = l.stop
