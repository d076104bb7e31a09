-- Numbers that never grow along a row, and what is tested of them.
use Rattle.std.specs.Prelude.{◌≡◌, ◌≢◌, ℕ, ◌+◌, ◌-◌, ◌*◌, ◌<◌, ◌≤◌, max, List, length, slice_index}
use Rattle.pcl_base.specs.Limits.{row_limit}
use Rattle.pcl_base.specs.declared.method.Method.{Method}
use Rattle.pcl_coders.specs.inner.Replacement.{replacement_bytes}
use Rattle.pcl_check.specs.inner.PlacePasses.{IsGoodEnd, AreGoodSteps}

-- what least numbers can be at most: two bytes for each byte of a row
abbrev pub most_number : ℕ
most_number = 2 * row_limit

-- no number is above one before it, or above what least numbers can be
pub record IsSteady (numbers : List ℕ) : Type 0 where
  pub falls : (place later : ℕ) → place ≤ later → slice_index numbers later ≤ slice_index numbers place
  pub small : (place : ℕ) → slice_index numbers place ≤ most_number

-- the number of a place is 0, and the byte before it differs from the row before
pub record IsNeedEnd (old row numbers : List ℕ) (end : ℕ) : Type 0 where
  pub within : end ≤ length row
  pub none : slice_index numbers end ≡ 0
  pub needed : 0 < end → slice_index old (end - 1) ≢ slice_index row (end - 1)

-- a number falls to the next one by what a run costs where that ends, and not where it goes on; of two equal bytes, which may
-- be literal bytes too, the number may fall to the one after both
pub record FallsByRun (row numbers : List ℕ) (place : ℕ) : Type 0 where
  pub one : slice_index row place ≢ slice_index row (place + 1) → slice_index numbers place ≤ 2 + slice_index numbers (place + 1)
  pub two : slice_index row place ≡ slice_index row (place + 1) → slice_index row (place + 1) ≢ slice_index row (place + 2)
      → slice_index numbers place ≤ max (slice_index numbers (place + 1)) (2 + slice_index numbers (place + 2))
  pub more : slice_index row place ≡ slice_index row (place + 1) → slice_index row (place + 1) ≡ slice_index row (place + 2)
      → slice_index numbers place ≤ slice_index numbers (place + 1)

-- a number is at most a byte and what is least after it where the bytes differ, and at most the next one where they don't
pub record FallsByStart (old row numbers least : List ℕ) (place : ℕ) : Type 0 where
  pub same : slice_index old place ≡ slice_index row place → slice_index numbers place ≤ slice_index numbers (place + 1)
  pub differs : slice_index old place ≢ slice_index row place
      → place + slice_index numbers place ≤ 1 + slice_index least (place + 1)

-- for each place at most each sum of a number and its place, of this many places from it on
abbrev pub AreLeastSums : List ℕ → ℕ → List ℕ → Type 0
AreLeastSums numbers count least = (place stop : ℕ) → place ≤ stop → stop < place + count → stop < length numbers
    → slice_index least place ≤ stop + slice_index numbers stop

-- no value is above what it was, or above what was that far after it
pub record TakesLater (count : ℕ) (old new : List ℕ) : Type 0 where
  pub size : length new ≡ length old
  pub here : (place : ℕ) → slice_index new place ≤ slice_index old place
  pub beyond : (place : ℕ) → place + count < length old → slice_index new place ≤ slice_index old (place + count)

-- a replacement that starts up to a place doesn't undercut a number, since one of as few bytes that starts as far or
-- farther doesn't
abbrev pub IsKeptBefore : ℕ → List ℕ → ℕ → ℕ → Type 0
IsKeptBefore number least place start = (offset : ℕ) → place + offset ≤ start
    → (far : ℕ) × (place + offset ≤ far) × (far ≤ start) × (number + far ≤ replacement_bytes offset + slice_index least (far + 1))

-- a place whose number is good
pub record IsGoodFor (method : Method) (old row numbers : List ℕ) (place : ℕ) : Type 0 where
  pub ends : IsGoodEnd old row numbers place
  pub steps : AreGoodSteps method old row numbers place
