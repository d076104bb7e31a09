-- The first bad place of row tables, as it is searched for.
use Rattle.std.specs.Prelude.{◌≡◌, ℕ, ◌*◌, ◌<◌, ◌≤◌, ◌⊎◌, List, length, Option, Some, None, MatchOption}
use Rattle.pcl_base.specs.declared.method.Method.{Method}
use Rattle.pcl_base.specs.Method.{method_code}
use Rattle.pcl_base.specs.Size.{page_height, page_row_bytes}
use Rattle.pcl_bitmap.specs.declared.page.Page.{Page}
use Rattle.pcl_cert.specs.declared.check.places.BadPlace.{BadPlace}
use Rattle.pcl_cert.specs.Checking.{Tables, IsGoodInTables, ArePlacesGood, IsFirstBadPlaceOf}

abbrev pub AreTablesOf : Page → Tables → Type 0
AreTablesOf page None = Unit {0}
AreTablesOf page (Some lists) = length lists ≡ 4 * page_height page.size page.dpi

-- the first bad place, or none where all numbers are good
abbrev pub FindsBadIn : Page → Tables → Option BadPlace → Type 0
FindsBadIn page tables found = MatchOption found (ArePlacesGood page tables) (IsFirstBadPlaceOf page tables)

-- the same in a row
pub record IsFirstBadInRow (page : Page) (lists : List (List ℕ)) (row : ℕ) (bad : BadPlace) : Type 0 where
  pub row_is : bad.row ≡ row
  pub place_within : bad.place ≤ page_row_bytes page.size page.dpi
  pub is_bad : IsGoodInTables page lists bad.row bad.method bad.place → ⊥
  pub first : (method : Method) (place : ℕ) → place ≤ page_row_bytes page.size page.dpi
      → (method_code method < method_code bad.method) ⊎ ((method ≡ bad.method) × (place < bad.place))
      → IsGoodInTables page lists row method place

-- the first bad place of a row in the methods whose codes are below one, or none
abbrev pub FindsBadBelow : Page → List (List ℕ) → ℕ → ℕ → Option BadPlace → Type 0
FindsBadBelow page lists row code found = MatchOption found
    ((method : Method) (place : ℕ) → method_code method < code → place ≤ page_row_bytes page.size page.dpi
    → IsGoodInTables page lists row method place)
    (IsFirstBadInRow page lists row)
