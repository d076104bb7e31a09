-- The walks of a row: the nodes are its places, and a step is an element that gives the row's bytes.
use Rattle.std.specs.Prelude.{◌≡◌, ℕ, ◌+◌, ◌≤◌, List, ◌++◌, length, take, drop, slice_index}
use Rattle.pcl_base.specs.declared.method.Method.{Method}
use Rattle.pcl_rows.specs.Heads.{offset_of}
use Rattle.pcl_rows.specs.Elements.{Element, IsElement, element_bytes, given, stop}
use Rattle.pcl_rows.specs.Decoding.{base}
use Rattle.pcl_base.specs.Walks.{IsFeasible, IsAttained}

-- an element that makes untreated bytes the wanted ones, as far as it goes: those that it leaves are the
-- wanted ones, and then it gives the wanted ones
abbrev pub Agrees : List ℕ → List ℕ → Element → Type 0
Agrees old wanted e = wanted ≡ take (offset_of e.head) old ++ (given e ++ drop (stop e) wanted)

-- a step from a place of the row to another one, over the row before the data comes
pub record StepsOver (method : Method) (old row : List ℕ) (place : ℕ) (e : Element) (next : ℕ) : Type 0 where
  pub element : IsElement method e
  pub agrees : Agrees (drop place old) (drop place row) e
  pub next_is : next ≡ place + stop e

-- a place from which no more data is needed
abbrev pub NeedsNoMore : List ℕ → List ℕ → ℕ → Type 0
NeedsNoMore old row place = drop place row ≡ drop place old

-- what an element costs: its bytes
abbrev pub element_cost : Element → ℕ
element_cost e = length (element_bytes e)

-- a number for each place of a row, from 0 to its length: none is above an element's bytes and the number where
-- that stops, for each element that agrees with the row, and it is 0 where no more data is needed
pub record IsRowTable (method : Method) (seed row table : List ℕ) : Type 0 where
  pub size : length table ≡ length row + 1
  pub feasible : IsFeasible (StepsOver method (base method seed) row) (NeedsNoMore (base method seed) row) element_cost (slice_index table)

-- the least numbers: data for the rest of the row has that many bytes
pub record IsLeastTable (method : Method) (seed row table : List ℕ) : Type 0 where
  pub table_is : IsRowTable method seed row table
  pub attained : (place : ℕ) → place ≤ length row
      → IsAttained (StepsOver method (base method seed) row) (NeedsNoMore (base method seed) row) element_cost place
      (slice_index table place)
