use Rattle.std.proofs.Common.{◌≡◌, ℕ, ◌<◌, length}
use Rattle.pcl_same.proofs.Names.{slice_index, bit_xor}
use Rattle.pcl_same.proofs.images.differing_bits.Given as goal

abbrev pub invariant-loop-place : goal.invariant-loop-place
invariant-loop-place l = record {
  len : length l.bits ≡ length l.one;
  done : (k : ℕ) → k < l.place → slice_index l.bits k ≡ bit_xor (slice_index l.one k) (slice_index l.other k);
}
