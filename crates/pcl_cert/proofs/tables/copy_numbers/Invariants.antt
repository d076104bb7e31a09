use Rattle.std.proofs.Common.{◌≡◌, ℕ, ◌<◌, ◌/◌, length, get_or}
use Rattle.pcl_cert.proofs.Names.{numbers_from}
use Rattle.pcl_cert.proofs.tables.copy_numbers.Given as goal

abbrev pub invariant-loop-place : goal.invariant-loop-place
invariant-loop-place l = record {
  size : length l.out ≡ length l.fn.out;
  same : (k : ℕ) → k < l.place → get_or l.out k 0 ≡ get_or (numbers_from (length l.bytes / 2) l.bytes) k 0;
}

abbrev pub invariant-loop-place-2 : goal.invariant-loop-place-2
invariant-loop-place-2 l = record {
  size : length l.out ≡ length l.fn.out;
  same : (k : ℕ) → k < l.place → get_or l.out k 0 ≡ get_or (numbers_from (length l.bytes / 2) l.bytes) k 0;
}
