-- Windows of numbers.
use Rattle.std.specs.Prelude.{◌≡◌, ℕ, ◌<◌, ◌≤◌, List, length, slice_index}

-- what contracts see of a window: its numbers, the one that was put in first at the head, and how many more can be put in
pub record Numbers : Type 0 where
  pub numbers : List ℕ
  pub room : ℕ

-- the least of some numbers
pub record IsLeastOf (numbers : List ℕ) (least : ℕ) : Type 0 where
  pub among : (k : ℕ) × (k < length numbers) × (slice_index numbers k ≡ least)
  pub below : (k : ℕ) → k < length numbers → least ≤ slice_index numbers k

-- the places first to stop of a queue: they grow, and so do their numbers; and each number that was put in and
-- not yet taken out is at least that of a place of the queue that isn't before it
pub record IsQueue (numbers places : List ℕ) (taken put first stop : ℕ) : Type 0 where
  pub same_size : length places ≡ length numbers
  pub put_within : put ≤ length numbers
  pub taken_within : taken ≤ put
  pub order : first ≤ stop
  pub stop_within : stop ≤ put
  pub inside : (j : ℕ) → first ≤ j → j < stop → (taken ≤ slice_index places j) × (slice_index places j < put)
  pub grow : (i j : ℕ) → first ≤ i → i < j → j < stop
      → (slice_index places i < slice_index places j)
      × (slice_index numbers (slice_index places i) ≤ slice_index numbers (slice_index places j))
  pub covers : (k : ℕ) → taken ≤ k → k < put
      → (j : ℕ) × (first ≤ j) × (j < stop) × (k ≤ slice_index places j)
      × (slice_index numbers (slice_index places j) ≤ slice_index numbers k)
