-- The element that begins the least data for the rest of a row.
use Rattle.std.specs.Prelude.{◌≡◌, ◌≢◌, ℕ, ◌+◌, ◌*◌, ◌<◌, ◌≤◌, List, length, slice_index}
use Rattle.pcl_base.specs.Limits.{row_limit}
use Rattle.pcl_base.specs.declared.method.Method.{Method}
use Rattle.pcl_rows.specs.Elements.{Element, IsElement, stop}
use Rattle.pcl_coders.specs.RowWalks.{Agrees, element_cost}

-- among the lengths from one to another, one whose bytes and number are the least together: `head` bytes,
-- `each` more for each of its own, and the number after them
pub record IsLeastLen (numbers : List ℕ) (from to head each : ℕ) (len sum : ℕ) : Type 0 where
  pub above : from ≤ len
  pub below : len ≤ to
  pub sum_is : sum ≡ head + each * len + slice_index numbers len
  pub least : (k : ℕ) → from ≤ k → k ≤ to → sum ≤ head + each * k + slice_index numbers k

-- a literal begins data of the first number
pub record IsLiteralLen (numbers : List ℕ) (most len : ℕ) : Type 0 where
  pub some : 1 ≤ len
  pub within : len ≤ most
  pub sum_is : slice_index numbers 0 ≡ 1 + len + slice_index numbers len

-- no literal does
abbrev pub NoLiteral : List ℕ → ℕ → Type 0
NoLiteral numbers most = (k : ℕ) → 1 ≤ k → k ≤ most → slice_index numbers 0 ≢ 1 + k + slice_index numbers k

-- an element that begins least data for the wanted bytes, where the numbers are those of the places from the first on
pub record IsChoice (method : Method) (old wanted numbers : List ℕ) (e : Element) (sum : ℕ) : Type 0 where
  pub element : IsElement method e
  pub agrees : Agrees old wanted e
  pub goes_on : 0 < stop e
  pub sum_is : sum ≡ element_cost e + slice_index numbers (stop e)
  pub least : (d : Element) → IsElement method d → Agrees old wanted d → 0 < stop d → sum ≤ element_cost d + slice_index numbers (stop d)

-- wanted bytes, some and not too many, and a number for each of their places and for their end
pub record IsPlace (wanted numbers : List ℕ) : Type 0 where
  pub size : length numbers ≡ length wanted + 1
  pub some : 0 < length wanted
  pub small : length wanted ≤ row_limit
