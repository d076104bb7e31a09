use Rattle.std.proofs.Common.{◌≢◌, ◌+◌, ◌<◌, ◌≤◌, ℕ}
use Rattle.pcl_coders.proofs.Names.{slice_index}
use Rattle.pcl_coders.proofs.choice.literal_len.Given as goal

abbrev pub invariant-loop-len : goal.invariant-loop-len
invariant-loop-len l =
    record { within : l.len ≤ l.most; none : (k : ℕ) → l.len < k → k ≤ l.most → slice_index l.numbers 0 ≢ 1 + k + slice_index l.numbers k }

abbrev pub decreases-loop-len : goal.decreases-loop-len
decreases-loop-len l = l.len
