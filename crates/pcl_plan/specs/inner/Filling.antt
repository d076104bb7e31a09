-- A table while it is filled, from the last row upwards.
use Rattle.std.specs.Prelude.{◌≡◌, ℕ, ◌+◌, ◌-◌, ◌*◌, ◌<◌, ◌≤◌, ◌⊎◌, List, length}
use Rattle.pcl_base.specs.declared.method.Method.{Method}
use Rattle.pcl_coders.specs.Coding.{IsLeastLength}
use Rattle.pcl_base.specs.Walks.{IsAttained}
use Rattle.pcl_output.specs.Tokens.{Token, IsWhite}
use Rattle.pcl_output.specs.inner.WhiteRows.{AreSkippable}
use Rattle.pcl_output.specs.declared.node.Node.{Node}
use Rattle.pcl_output.specs.Nodes.{row_at, row_above, Leads, Ends, cost}
use Rattle.pcl_output.specs.Spelling.{setting_cost, row_cost}
use Rattle.pcl_plan.specs.declared.fill.Skip.{Skip}
use Rattle.pcl_output.specs.declared.table.RowNumbers.{RowNumbers}
use Rattle.pcl_output.specs.Table.{node_number, outside, rest, IsSwitched}

-- this many rows that are skipped, and what comes after them
abbrev pub skipping : (Node → ℕ) → ℕ → Method → ℕ → ℕ
skipping number row method count = setting_cost count + rest number (row + count) method

-- ---- the numbers of a row that isn't in white rest

-- a count of rows whose skipping costs least, among those up to a count
pub record IsLeastSkip (number : Node → ℕ) (row : ℕ) (method : Method) (run : ℕ) (skip : Skip) : Type 0 where
  pub bound : (count : ℕ) → 0 < count → count ≤ run → skip.number ≤ skipping number row method count
  pub some : 0 < skip.count
  pub within : skip.count ≤ run
  pub number_is : skip.number ≡ skipping number row method skip.count

-- what is known of a table where a row is sent or some of this many rows are skipped: the numbers that are read are
-- small, and don't grow across the rows that may be skipped
pub record IsReadable (table : List RowNumbers) (row run : ℕ) : Type 0 where
  pub next : row + 1 < length table
  pub within : row + run < length table
  pub few : length table ≤ 10000
  pub falls : (method : Method) (near far : ℕ) → 0 < near → near ≤ far → far ≤ run
      → rest (node_number table) (row + far) method ≤ rest (node_number table) (row + near) method
  pub small : (a : Node) → row < a.row → a.row < length table → node_number table a ≤ 655374457

-- the least of row_cost a row by this many bytes, and of skipping some of this many rows
pub record IsLeastStart (number : Node → ℕ) (row : ℕ) (method : Method) (run bytes least : ℕ) : Type 0 where
  pub sent : least ≤ row_cost bytes + outside number (row + 1) method
  pub skipped : (count : ℕ) → 0 < count → count ≤ run → least ≤ skipping number row method count
  pub attained : (least ≡ row_cost bytes + outside number (row + 1) method)
      ⊎ ((count : ℕ) × (0 < count) × (count ≤ run) × (least ≡ skipping number row method count))

-- the least that comes in an open sequence where no method is set first: the row is sent, or rows are skipped
pub record IsDirect (width : ℕ) (rows : List (List ℕ)) (number : Node → ℕ) (row : ℕ) (method : Method) (least : ℕ) : Type 0 where
  pub bytes : ℕ
  pub is_length : IsLeastLength method (row_above width rows row) (row_at rows row) bytes
  pub sent : least ≤ row_cost bytes + outside number (row + 1) method
  pub skipped : (count : ℕ) → AreSkippable rows row count → least ≤ skipping number row method count
  pub attained : (least ≡ row_cost bytes + outside number (row + 1) method)
      ⊎ ((count : ℕ) × AreSkippable rows row count × (least ≡ skipping number row method count))

-- the least that comes in each method with no switch before it, and the numbers by that
pub record AreRowNumbers (width : ℕ) (rows : List (List ℕ)) (number : Node → ℕ) (row : ℕ) (numbers : RowNumbers) : Type 0 where
  pub direct : Method → ℕ
  pub are_direct : (method : Method) → IsDirect width rows number row method (direct method)
  pub switched : IsSwitched direct numbers

-- ---- rows that are done

-- the numbers after this many rows are right, where those after more are
pub record IsRowRight (width : ℕ) (rows : List (List ℕ)) (number : Node → ℕ) (row : ℕ) : Type 0 where
  pub steps : (a : Node) (token : Token) (b : Node) → a.row ≡ row → Leads width rows a token b → number a ≤ cost token + number b
  pub ends : (a : Node) → a.row ≡ row → Ends rows a → number a ≡ 0
  pub attained : (a : Node) → a.row ≡ row → IsAttained (Leads width rows) (Ends rows) cost a (number a)
  -- a walk from a white row is as good without it
  pub falls : (method : Method) → row < length rows → IsWhite (row_at rows row) → rest number (row + 1) method ≤ rest number row method
  pub small : (a : Node) → a.row ≡ row → number a ≤ 65544 * (length rows - row) + 1

-- the numbers of a table are right from a row on
pub record AreRowsRightFrom (width : ℕ) (rows : List (List ℕ)) (table : List RowNumbers) (from : ℕ) : Type 0 where
  pub size : length table ≡ length rows + 1
  pub right : (row : ℕ) → from ≤ row → row ≤ length rows → IsRowRight width rows (node_number table) row
