use Rattle.std.proofs.Common.{◌≡◌, ℕ, ◌-◌, ◌<◌, length}
use Rattle.pcl_check.proofs.Names.{slice_index}
use Rattle.pcl_check.proofs.places.fill.fill_ends.Given as goal

abbrev pub invariant-loop-end : goal.invariant-loop-end
invariant-loop-end l = (k : ℕ) → k < l.end-index → slice_index l.ends k ≡ length l.ends - 1
