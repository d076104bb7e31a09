-- Tables of a page that show how long its least texts are.
use Rattle.std.specs.Prelude.{◌≡◌, ℕ, ◌+◌, List, length}
use Rattle.pcl_base.specs.Walks.{IsFeasible, IsLeastCost}
use Rattle.pcl_base.specs.Size.{page_row_bytes}
use Rattle.pcl_bitmap.specs.declared.page.Page.{Page}
use Rattle.pcl_output.specs.declared.table.RowNumbers.{RowNumbers}
use Rattle.pcl_output.specs.PageText.{bitmap_rows}
use Rattle.pcl_output.specs.Nodes.{start, Leads, Ends, cost}
use Rattle.pcl_output.specs.Table.{node_number}

-- a number for each node of the rows, none above a token's cost and the number where that leads, and that of the first node
-- the least cost of a walk
pub record IsTableFor (width : ℕ) (rows : List (List ℕ)) (table : List RowNumbers) : Type 0 where
  pub size : length table ≡ length rows + 1
  pub feasible : IsFeasible (Leads width rows) (Ends rows) cost (node_number table)
  pub least : IsLeastCost (Leads width rows) (Ends rows) cost start (node_number table start)

-- the same for the rows of a page
abbrev pub IsTableOf : Page → List RowNumbers → Type 0
IsTableOf page table = IsTableFor (page_row_bytes page.size page.dpi) (bitmap_rows page.bitmap) table
