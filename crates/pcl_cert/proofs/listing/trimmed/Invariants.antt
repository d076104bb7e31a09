use Rattle.std.proofs.Common.{◌≡◌, ◌<◌, ◌≤◌, ℕ, length}
use Rattle.pcl_cert.proofs.Names.{slice_index}
use Rattle.pcl_cert.proofs.listing.trimmed.Given as goal

abbrev pub decreases-loop-len : goal.decreases-loop-len
decreases-loop-len l = l.len

abbrev pub invariant-loop-len : goal.invariant-loop-len
invariant-loop-len l = (l.len ≤ length l.numbers) × ((k : ℕ) → l.len ≤ k → k < length l.numbers → slice_index l.numbers k ≡ 0)
