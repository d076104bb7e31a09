-- How far the bytes at the front of a list are alike.
use Rattle.std.proofs.Common.{◌≡◌, ℕ, ◌+◌, ◌-◌, ◌≤◌, min, List, length, take, drop, replicate, inl, inr, arith}
use Rattle.pcl_coders.proofs.Names.{slice_index, cases_lt, ext_get_or, get_or-take, get_or-drop, get_or-replicate, length-drop, length-take, length-replicate, run_byte, IsFirstDifference, IsRunEnd, IsLeastLen}

-- how many wanted bytes at the front are one byte again and again
pub record IsRunLen (wanted : List ℕ) (len : ℕ) : Type 0 where
  pub within : len ≤ length wanted
  pub equal : take len wanted ≡ replicate len (slice_index wanted 0)
  pub longest : (k byte : ℕ) → k ≤ length wanted → take k wanted ≡ replicate k byte → k ≤ len

-- how many bytes at the front of two lists are the same
pub record IsSameLen (old wanted : List ℕ) (len : ℕ) : Type 0 where
  pub within : len ≤ length wanted
  pub equal : take len wanted ≡ take len old
  pub longest : (k : ℕ) → k ≤ length wanted → take k wanted ≡ take k old → k ≤ len

-- the run at a place, of which the end is known
pub run_len_of : {row : List ℕ} {from end : ℕ} (run : ℕ) → IsRunEnd row from end → end ≡ from + run → IsRunLen (drop from row) run
run_len_of {row} {from} run is there = record {
  within = omega (arith, length-drop from row, is.within);
  equal = ext_get_or 0 (take run (drop from row)) (replicate run (slice_index (drop from row) 0))
      (grind (arith, length-take, length-drop, length-replicate, is.within))
      (λ k below. grind (arith, length-take, get_or-take, get_or-drop, get_or-replicate, is.same));
  longest = λ k byte fits alike.
      grind (arith, run_byte row from k byte 0 alike, run_byte row from k byte run alike, is.differs, length-drop from row);
}

-- the front of two rows that is the same
pub same_len_of : {old wanted : List ℕ} {place : ℕ} → length old ≡ length wanted → IsFirstDifference old wanted place
    → IsSameLen old wanted place
same_len_of {old} {wanted} {place} size is = record {
  within = omega (arith, is.within);
  equal = ext_get_or 0 (take place wanted) (take place old) (grind (arith, length-take, is.within))
      (λ k below. grind (arith, length-take, get_or-take, is.same));
  longest = λ k fits alike. grind (arith, get_or-take k old place 0, get_or-take k wanted place 0, is.differs);
}

-- ---- the best length

-- the lesser of the best so far and the next
pub least_min_one : (numbers : List ℕ) → (len : ℕ) × IsLeastLen numbers 1 1 0 1 len (slice_index numbers 1 + 1)
least_min_one numbers = (1, grind arith)

pub least_min_next : {numbers : List ℕ} {to best : ℕ} (now : ℕ) → 1 ≤ to → (len : ℕ) × IsLeastLen numbers 1 (to - 1) 0 1 len best
    → now ≡ min best (slice_index numbers to + to) → (len : ℕ) × IsLeastLen numbers 1 to 0 1 len now
least_min_next {numbers} {to} {best} now order b now-is =
    elim (cases_lt (slice_index numbers to + to) best) [
      | inl better ↦ (to, grind (arith, b.1.least))
      | inr worse ↦ (b.0, grind (arith, b.1.least))
    ]
