-- The passes by which bad places are found.
use Rattle.std.specs.Prelude.{◌≡◌, ◌≢◌, ℕ, ◌+◌, ◌-◌, ◌<◌, ◌≤◌, min, List, length, take, drop, replicate, slice_index, Option, Some, None}
use Rattle.pcl_bitmap.specs.Kernels.{IsRunEnd}
use Rattle.pcl_coders.specs.inner.Choosing.{IsLeastLen}
use Rattle.pcl_base.specs.declared.method.Method.{Method}
use Rattle.pcl_rows.specs.Elements.{Element}
use Rattle.pcl_coders.specs.inner.Replacement.{replacement_bytes}
use Rattle.pcl_coders.specs.RowWalks.{StepsOver, NeedsNoMore, element_cost}

-- the first of two places
abbrev pub first_found_place : Option ℕ → Option ℕ → Option ℕ
first_found_place None other = other
first_found_place (Some one) None = Some one
first_found_place (Some one) (Some other) = Some (min one other)

-- no step of a cost undercuts the number of a place, where it stops at one of the next places, up to an end
abbrev pub IsNotUndercut : List ℕ → List ℕ → List ℕ → ℕ → ℕ → ℕ → Type 0
IsNotUndercut numbers values ends cost most place = (stop : ℕ) → place < stop → stop ≤ place + most → stop ≤ slice_index ends place
    → slice_index numbers place ≤ cost + slice_index values stop

-- 0 where no more data is needed
abbrev pub IsGoodEnd : List ℕ → List ℕ → List ℕ → ℕ → Type 0
IsGoodEnd old row numbers place = NeedsNoMore old row place → slice_index numbers place ≡ 0

-- ---- elements of each kind

-- a byte that stands for itself
abbrev pub IsGoodByte : List ℕ → ℕ → Type 0
IsGoodByte numbers place = place + 1 < length numbers → slice_index numbers place ≤ 1 + slice_index numbers (place + 1)

-- equal bytes, with a count or repeated
abbrev pub AreGoodRuns : List ℕ → List ℕ → ℕ → ℕ → Type 0
AreGoodRuns row numbers most place = (count byte : ℕ) → 0 < count → count ≤ most → place + count ≤ length row
    → take count (drop place row) ≡ replicate count byte → slice_index numbers place ≤ 2 + slice_index numbers (place + count)

-- literal bytes
abbrev pub AreGoodLiterals : List ℕ → ℕ → Type 0
AreGoodLiterals numbers place = (count : ℕ) → 0 < count → count ≤ 128 → place + count < length numbers
    → slice_index numbers place ≤ 1 + count + slice_index numbers (place + count)

-- bytes that replace those after an offset
abbrev pub AreGoodReplacements : List ℕ → List ℕ → List ℕ → ℕ → Type 0
AreGoodReplacements old row numbers place = (offset len : ℕ) → 0 < len → len ≤ 8 → place + offset + len ≤ length row
    → take offset (drop place row) ≡ take offset (drop place old)
    → slice_index numbers place ≤ replacement_bytes offset + len + slice_index numbers (place + (offset + len))

-- all elements
abbrev pub AreGoodSteps : Method → List ℕ → List ℕ → List ℕ → ℕ → Type 0
AreGoodSteps method old row numbers place = (e : Element) (next : ℕ) → StepsOver method old row place e next
    → slice_index numbers place ≤ element_cost e + slice_index numbers next

-- ---- where steps stop at the latest, for the places from one on

-- in one run of equal bytes; after the row there are none
pub record AreRunStops (row ends : List ℕ) (from : ℕ) : Type 0 where
  pub size : length ends ≡ length row + 1
  pub last : slice_index ends (length row) ≡ length row
  pub runs : (place : ℕ) → from ≤ place → place < length row → IsRunEnd row place (slice_index ends place)

-- after the first byte that differs, or after the row
pub record IsStartEnd (old row : List ℕ) (place end : ℕ) : Type 0 where
  pub after : place < end
  pub within : end ≤ length row
  pub same : (k : ℕ) → place ≤ k → k + 1 < end → slice_index old k ≡ slice_index row k
  pub differs : end < length row → slice_index old (end - 1) ≢ slice_index row (end - 1)

pub record AreStartEnds (old row ends : List ℕ) (from : ℕ) : Type 0 where
  pub size : length ends ≡ length row + 1
  pub last : slice_index ends (length row) ≡ length row
  pub starts : (place : ℕ) → from ≤ place → place < length row → IsStartEnd old row place (slice_index ends place)

-- ---- what is counted where a step stops

-- a number and its place
abbrev pub ArePlaced : List ℕ → List ℕ → Type 0
ArePlaced numbers sums = (place : ℕ) → place < length numbers → slice_index sums place ≡ place + slice_index numbers place

-- the least of the replaced bytes and the number after them, for each place after a start
abbrev pub AreAfterStarts : List ℕ → List ℕ → Type 0
AreAfterStarts numbers sums = (start : ℕ) → start + 1 < length numbers
    → (len : ℕ) × IsLeastLen (drop start numbers) 1 (min (length numbers - 1 - start) 8) 0 1 len (slice_index sums (start + 1))
