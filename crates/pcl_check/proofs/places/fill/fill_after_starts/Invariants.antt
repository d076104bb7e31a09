use Rattle.std.proofs.Common.{ℕ, ◌+◌, ◌-◌, ◌<◌, min, length, drop}
use Rattle.pcl_check.proofs.Names.{slice_index, IsLeastLen}
use Rattle.pcl_check.proofs.places.fill.fill_after_starts.Given as goal

abbrev pub invariant-loop-start : goal.invariant-loop-start
invariant-loop-start l = (k : ℕ) → k < l.start
    → (len : ℕ) × IsLeastLen (drop k l.numbers) 1 (min (length l.numbers - 1 - k) 8) 0 1 len (slice_index l.sums (k + 1))
