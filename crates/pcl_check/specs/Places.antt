-- Good numbers of the places of a row: none is above an element's bytes and the number where that stops.
use Rattle.std.specs.Prelude.{◌≡◌, ℕ, ◌+◌, ◌<◌, ◌≤◌, List, length, slice_index, Option, MatchOption}
use Rattle.pcl_base.specs.declared.method.Method.{Method}
use Rattle.pcl_rows.specs.Elements.{Element}
use Rattle.pcl_rows.specs.Decoding.{base}
use Rattle.pcl_coders.specs.RowWalks.{StepsOver, NeedsNoMore, element_cost, IsRowTable}

-- no element that agrees with the row undercuts the number of the place, and it is 0 where no more data is needed
pub record IsGoodPlace (method : Method) (seed row numbers : List ℕ) (place : ℕ) : Type 0 where
  pub steps : (e : Element) (next : ℕ) → StepsOver method (base method seed) row place e next
      → slice_index numbers place ≤ element_cost e + slice_index numbers next
  pub ends : NeedsNoMore (base method seed) row place → slice_index numbers place ≡ 0

-- the first place, up to a last one, of which a fact doesn't hold
pub record IsFirstPlace (Good : ℕ → Type 0) (last place : ℕ) : Type 0 where
  pub within : place ≤ last
  pub is_bad : Good place → ⊥
  pub first : (before : ℕ) → before < place → Good before

-- that place, or none where it holds of all
abbrev pub FindsPlace : (ℕ → Type 0) → ℕ → Option ℕ → Type 0
FindsPlace Good last found = MatchOption found ((place : ℕ) → place ≤ last → Good place) (IsFirstPlace Good last)

-- the first bad number of a row's places, or none where the numbers are a row table
abbrev pub FindsBadPlace : Method → List ℕ → List ℕ → List ℕ → Option ℕ → Type 0
FindsBadPlace method seed row numbers found =
    MatchOption found (IsRowTable method seed row numbers) (IsFirstPlace (IsGoodPlace method seed row numbers) (length row))
