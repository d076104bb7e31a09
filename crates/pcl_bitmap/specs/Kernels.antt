-- Where rows of bytes change.
use Rattle.std.specs.Prelude.{◌≡◌, ◌≢◌, ℕ, ◌-◌, ◌<◌, ◌≤◌, List, length, slice_index}

-- the first place where two rows differ, their length where there is none
pub record IsFirstDifference (a b : List ℕ) (place : ℕ) : Type 0 where
  pub within : place ≤ length a
  pub same : (k : ℕ) → k < place → slice_index a k ≡ slice_index b k
  pub differs : place < length a → slice_index a place ≢ slice_index b place

-- the first place after another one whose byte differs from the byte there, the length where there is none
pub record IsRunEnd (row : List ℕ) (from end : ℕ) : Type 0 where
  pub after : from < end
  pub within : end ≤ length row
  pub same : (k : ℕ) → from ≤ k → k < end → slice_index row k ≡ slice_index row from
  pub differs : end < length row → slice_index row end ≢ slice_index row from

-- the length without the zero bytes at the end
pub record IsTrimmedLen (row : List ℕ) (len : ℕ) : Type 0 where
  pub within : len ≤ length row
  pub zeros : (k : ℕ) → len ≤ k → slice_index row k ≡ 0
  pub last : 0 < len → slice_index row (len - 1) ≢ 0
