-- A table of least numbers while it is filled, and data while it is appended.
use Rattle.std.specs.Prelude.{◌≡◌, ℕ, ◌+◌, ◌-◌, ◌*◌, ◌<◌, ◌≤◌, ◌⊎◌, List, ◌++◌, length, drop, replicate, slice_index, flat_map}
use Rattle.pcl_base.specs.Limits.{row_limit}
use Rattle.pcl_base.specs.declared.method.Method.{Method}
use Rattle.pcl_rows.specs.Elements.{Element, IsElement, element_bytes, stop}
use Rattle.pcl_base.specs.Walks.{Walk, total}
use Rattle.pcl_coders.specs.RowWalks.{Agrees, StepsOver, NeedsNoMore, element_cost}

-- an element that goes on from a place of the row, and begins what the number of the place counts
pub record IsNext (method : Method) (old row table : List ℕ) (place : ℕ) (e : Element) : Type 0 where
  pub element : IsElement method e
  pub agrees : Agrees (drop place old) (drop place row) e
  pub goes_on : 0 < stop e
  pub number_is : slice_index table place ≡ element_cost e + slice_index table (place + stop e)

-- the number of a place is right, where those after it are
pub record IsPlaceNumber (method : Method) (old row table : List ℕ) (place : ℕ) : Type 0 where
  pub steps : (e : Element) → IsElement method e → Agrees (drop place old) (drop place row) e
      → slice_index table place ≤ element_cost e + slice_index table (place + stop e)
  pub ends : NeedsNoMore old row place → slice_index table place ≡ 0
  pub attained : NeedsNoMore old row place ⊎ ((e : Element) × IsNext method old row table place e)
  pub small : slice_index table place ≤ 2 * (length row - place)

-- the numbers from a place on are right
abbrev pub AreRightFrom : Method → List ℕ → List ℕ → List ℕ → ℕ → Type 0
AreRightFrom method old row table from = (place : ℕ) → from ≤ place → place ≤ length row → IsPlaceNumber method old row table place

-- the first place from which no more data is needed
pub record IsFirstEnd (old row : List ℕ) (end : ℕ) : Type 0 where
  pub within : end ≤ length row
  pub ends : NeedsNoMore old row end
  pub first : (place : ℕ) → NeedsNoMore old row place → end ≤ place

-- a table that is filled where no more data is needed: with 0 from the first such place on
pub record HasZeros (old row table : List ℕ) (end : ℕ) : Type 0 where
  pub same_size : length old ≡ length row
  pub small : length row ≤ row_limit
  pub size : length table ≡ length row + 1
  pub first_end : IsFirstEnd old row end
  pub zeros : (place : ℕ) → end ≤ place → slice_index table place ≡ 0

-- a row of white as long as another one
abbrev pub white_like : List ℕ → List ℕ
white_like row = replicate (length row) 0

-- where the best literal of a place ends: of the ends whose place and number are least together, the first
pub record IsLiteralEnd (table : List ℕ) (end place best : ℕ) : Type 0 where
  pub above : place < best
  pub within : best ≤ end
  pub near : best ≤ place + 128
  pub least : (to : ℕ) → best ≤ to → to ≤ end → to ≤ place + 128 → best + slice_index table best ≤ to + slice_index table to
  pub first : (to : ℕ) → place < to → to < best → best + slice_index table best < to + slice_index table to

-- the same of a place or of the end, and that no number from there on is above what a literal gives
pub record HasLiteralEnd (table : List ℕ) (end place best : ℕ) : Type 0 where
  pub literals : (from to : ℕ) → place ≤ from → from < to → to ≤ end → to ≤ from + 128
      → slice_index table from ≤ 1 + (to - from) + slice_index table to
  pub last : place ≡ end → best ≡ end
  pub some : place < end → IsLiteralEnd table end place best

-- now is before with the bytes of a walk that costs the number of the first place
pub record AppendsWalk (method : Method) (old row table before now : List ℕ) : Type 0 where
  pub steps : List Element
  pub walk : Walk (StepsOver method old row) (NeedsNoMore old row) 0 steps
  pub total_is : total element_cost steps ≡ slice_index table 0
  pub joined : now ≡ before ++ flat_map element_bytes steps
