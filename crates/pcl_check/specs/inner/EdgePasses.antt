-- The passes by which bad numbers are found.
use Rattle.std.specs.Prelude.{◌≡◌, ℕ, zero, suc, ◌+◌, ◌-◌, ◌<◌, ◌≤◌, nat_lt, if◌then◌else◌, Bool, true, false, List, [], ◌∷◌, length, slice_index, Option, Some, None}
use Rattle.pcl_base.specs.declared.method.Method.{Method}
use Rattle.pcl_output.specs.declared.node.Node.{Node}
use Rattle.pcl_output.specs.Table.{rest}
use Rattle.pcl_output.specs.inner.WhiteRows.{IsWhiteRun}
use Rattle.pcl_check.specs.Edges.{number_at, place_of, AreGoodSwitches}
use Rattle.pcl_output.specs.Spelling.{row_cost, setting_cost}

-- ---- found numbers

abbrev pub found_place : Node → ℕ
found_place bad = place_of bad.row bad.method bad.inside

-- the one of two that stands first in a certificate
abbrev pub first_found : Option Node → Option Node → Option Node
first_found None other = other
first_found (Some one) None = Some one
first_found (Some one) (Some other) = if nat_lt (found_place other) (found_place one) then Some other else Some one

-- a fact of rows that is asked of the nodes of one method alone, outside a sequence or inside
abbrev pub At : Method → Bool → (ℕ → Type 0) → ℕ → Method → Bool → Type 0
At method inside Good row current is_open = current ≡ method → is_open ≡ inside → Good row

-- both facts
abbrev pub Both : (ℕ → Method → Bool → Type 0) → (ℕ → Method → Bool → Type 0) → ℕ → Method → Bool → Type 0
Both One Other row method inside = One row method inside × Other row method inside

-- ---- white rows

-- the places where the white rows from each row on end, and from the end of the rows on
pub record AreRunEnds (rows : List (List ℕ)) (ends : List ℕ) (from : ℕ) : Type 0 where
  pub size : length ends ≡ length rows + 1
  pub runs : (row : ℕ) → from ≤ row → row ≤ length rows → (row ≤ slice_index ends row) × IsWhiteRun rows row (slice_index ends row - row)

-- what is known of such places without the rows
pub record AreEnds (ends : List ℕ) (last : ℕ) : Type 0 where
  pub size : length ends ≡ last + 1
  pub few : last ≤ 9999
  pub above : (row : ℕ) → row ≤ last → row ≤ slice_index ends row
  pub within : (row : ℕ) → row ≤ last → slice_index ends row ≤ last
  pub grow : (row : ℕ) → row < last → slice_index ends row ≤ slice_index ends (row + 1)

-- ---- good numbers, one kind of step after the other

abbrev pub IsGoodStart : List ℕ → (Node → ℕ) → Method → ℕ → Type 0
IsGoodStart ends number method row = (number_at number row method false ≤ 3 + number_at number row method true)
    × (slice_index ends row + 1 ≡ length ends → number_at number row method false ≡ 0)

abbrev pub IsGoodSending : ℕ → (ℕ → Method → ℕ → Type 0) → (Node → ℕ) → Method → ℕ → Type 0
IsGoodSending last Counts number method row = (bytes : ℕ) → row < last → Counts row method bytes
    → number_at number row method true ≤ row_cost bytes + number_at number (row + 1) method false

-- skips of at most this many rows, as if each of the counts had this many digits
abbrev pub AreGoodSkipsOf : List ℕ → (Node → ℕ) → Method → ℕ → ℕ → ℕ → Type 0
AreGoodSkipsOf ends number method digits most row = (count : ℕ) (inside : Bool) → 0 < count → count ≤ most
    → row + count ≤ slice_index ends row → number_at number row method true ≤ digits + 1 + number_at number (row + count) method inside

-- skips of all counts
abbrev pub AreGoodSkipsTo : List ℕ → (Node → ℕ) → Method → ℕ → Type 0
AreGoodSkipsTo ends number method row = (count : ℕ) (inside : Bool) → 0 < count
    → row + count ≤ slice_index ends row
    → number_at number row method true ≤ setting_cost count + number_at number (row + count) method inside

-- all steps from a node
abbrev pub IsGoodBy : List ℕ → ℕ → (ℕ → Method → ℕ → Type 0) → (Node → ℕ) → ℕ → Method → Bool → Type 0
IsGoodBy ends last Counts number row method false = IsGoodStart ends number method row
IsGoodBy ends last Counts number row method true =
    AreGoodSwitches number method row × IsGoodSending last Counts number method row × AreGoodSkipsTo ends number method row

-- the same, asked of the nodes of one method alone
abbrev pub IsGoodIn : List ℕ → ℕ → (ℕ → Method → ℕ → Type 0) → (Node → ℕ) → Method → ℕ → Method → Bool → Type 0
IsGoodIn ends last Counts number method row current inside = current ≡ method → IsGoodBy ends last Counts number row current inside

-- ---- windows

-- the values at this many places from one on
unfoldable pub values : (ℕ → ℕ) → ℕ → ℕ → List ℕ
values value from zero = []
values value from (suc count) = value from ∷ values value (from + 1) count

-- the numbers after this many rows from one on, for each the lesser of those inside a sequence and outside
abbrev pub rests : (Node → ℕ) → Method → ℕ → ℕ → List ℕ
rests number method = values (λ row. rest number row method)
