-- Good numbers of the nodes of a page: none is above what a step costs and the number where that leads.
use Rattle.std.specs.Prelude.{◌≡◌, ℕ, ◌+◌, ◌*◌, ◌<◌, ◌≤◌, Bool, true, false, List, length, take, drop, Option, MatchOption}
use Rattle.pcl_base.specs.declared.method.Method.{Method}
use Rattle.pcl_base.specs.Method.{method_code}
use Rattle.pcl_rows.specs.Rows.{IsRowData}
use Rattle.pcl_coders.specs.Coding.{IsLeastLength}
use Rattle.pcl_output.specs.Tokens.{AreWhite}
use Rattle.pcl_output.specs.declared.node.Node.{Node}
use Rattle.pcl_output.specs.Nodes.{row_at, row_above}
use Rattle.pcl_output.specs.Spelling.{setting_cost, row_cost}

-- ---- good numbers

-- the number of the node after this many rows, in a method, inside a sequence or outside
abbrev pub number_at : (Node → ℕ) → ℕ → Method → Bool → ℕ
number_at number row method inside = number (record { row = row; method = method; inside = inside })

-- outside a sequence: one is opened, or the text ends where the rest of the rows is white
pub record IsGoodOutside (rows : List (List ℕ)) (number : Node → ℕ) (method : Method) (row : ℕ) : Type 0 where
  pub opens : number_at number row method false ≤ 3 + number_at number row method true
  pub ends : AreWhite (drop row rows) → number_at number row method false ≡ 0

-- inside one a method is set, and the sequence goes on or ends
abbrev pub AreGoodSwitches : (Node → ℕ) → Method → ℕ → Type 0
AreGoodSwitches number method row = (next : Method) (inside : Bool)
    → number_at number row method true ≤ setting_cost (method_code next) + number_at number row next inside

-- inside a sequence: setting a method, skipping white rows or sending the row, by a length that it is counted with, never undercuts the
-- number
pub record IsGoodInside (rows : List (List ℕ)) (Counts : ℕ → Method → ℕ → Type 0) (number : Node → ℕ) (method : Method) (row : ℕ)
    : Type 0 where
  pub switches : AreGoodSwitches number method row
  pub skips : (count : ℕ) (inside : Bool) → 0 < count → row + count ≤ length rows → AreWhite (take count (drop row rows))
      → number_at number row method true ≤ setting_cost count + number_at number (row + count) method inside
  pub sends : (bytes : ℕ) → row < length rows → Counts row method bytes
      → number_at number row method true ≤ row_cost bytes + number_at number (row + 1) method false

-- the number after this many rows, in a method, inside a sequence or outside, is good
abbrev pub IsGoodNumber : List (List ℕ) → (ℕ → Method → ℕ → Type 0) → (Node → ℕ) → ℕ → Method → Bool → Type 0
IsGoodNumber rows Counts number row method false = IsGoodOutside rows number method row
IsGoodNumber rows Counts number row method true = IsGoodInside rows Counts number method row

-- all numbers of a page
abbrev pub AreGoodNumbers : List (List ℕ) → (ℕ → Method → ℕ → Type 0) → (Node → ℕ) → Type 0
AreGoodNumbers rows Counts number = (row : ℕ) (method : Method) (inside : Bool) → row ≤ length rows
    → IsGoodNumber rows Counts number row method inside

-- ---- the lengths that rows are counted with

-- the least length of whole data for the row, over the row above it
abbrev pub IsLeastOfRow : ℕ → List (List ℕ) → ℕ → Method → ℕ → Type 0
IsLeastOfRow width rows row method bytes = IsLeastLength method (row_above width rows row) (row_at rows row) bytes

-- a given length for each row and each method
abbrev pub IsGiven : (ℕ → Method → ℕ) → ℕ → Method → ℕ → Type 0
IsGiven lengths row method bytes = bytes ≡ lengths row method

-- given lengths that no whole data for a row is shorter than
abbrev pub BoundData : ℕ → List (List ℕ) → (ℕ → Method → ℕ) → Type 0
BoundData width rows lengths = (row : ℕ) (method : Method) (whole : List ℕ) → row < length rows
    → IsRowData method (row_above width rows row) (row_at rows row) whole → lengths row method ≤ length whole

-- ---- the first bad number

-- 0 for a node outside a sequence, which comes first, and 1 for one inside
abbrev pub inside_code : Bool → ℕ
inside_code false = 0
inside_code true = 1

-- where the number of a node stands in a certificate: row after row, in a row method after method, outside before inside
abbrev pub place_of : ℕ → Method → Bool → ℕ
place_of row method inside = 8 * row + 2 * method_code method + inside_code inside

-- the first node, down to this many rows, whose number isn't good
pub record IsFirstBad (Good : ℕ → Method → Bool → Type 0) (last : ℕ) (bad : Node) : Type 0 where
  pub within : bad.row ≤ last
  pub is_bad : Good bad.row bad.method bad.inside → ⊥
  pub first : (row : ℕ) (method : Method) (inside : Bool)
      → place_of row method inside < place_of bad.row bad.method bad.inside → Good row method inside

-- that node, or none where all numbers are good
abbrev pub FindsBad : (ℕ → Method → Bool → Type 0) → ℕ → Option Node → Type 0
FindsBad Good last found =
    MatchOption found ((row : ℕ) (method : Method) (inside : Bool) → row ≤ last → Good row method inside) (IsFirstBad Good last)
