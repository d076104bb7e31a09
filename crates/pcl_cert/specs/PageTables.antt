-- The row tables of a page.
use Rattle.std.specs.Prelude.{◌≡◌, ℕ, ◌+◌, ◌*◌, ◌<◌, List, ◌++◌, length, take, replicate}
use Rattle.std.specs.List.{AllByRecursion}
use Rattle.pcl_base.specs.declared.method.Method.{Method}
use Rattle.pcl_base.specs.Size.{page_row_bytes}
use Rattle.pcl_coders.specs.RowWalks.{IsLeastTable}
use Rattle.pcl_bitmap.specs.declared.page.Page.{Page}
use Rattle.pcl_output.specs.Nodes.{row_at, row_above}
use Rattle.pcl_output.specs.PageText.{bitmap_rows}
use Rattle.pcl_cert.specs.Certificates.{IsList}
use Rattle.pcl_cert.specs.RowTables.{list_of}

-- the table that a list stands for: the numbers of this many places, 0 after the list's end
abbrev pub table_of : ℕ → List ℕ → List ℕ
table_of places list = take places (list ++ replicate places 0)

-- the table of a row and a method: a number for each place of the row, and one for its end
abbrev pub row_table : ℕ → List (List ℕ) → ℕ → Method → List ℕ
row_table width lists row method = table_of (width + 1) (list_of lists row method)

-- lists for rows, four for each: none ends in 0 or is longer than a row, and their tables hold the least numbers
pub record AreLeastTables (width : ℕ) (rows : List (List ℕ)) (lists : List (List ℕ)) : Type 0 where
  pub size : length lists ≡ 4 * length rows
  pub lists_are : AllByRecursion (IsList width) lists
  pub least : (row : ℕ) (method : Method) → row < length rows
      → IsLeastTable method (row_above width rows row) (row_at rows row) (row_table width lists row method)

abbrev pub AreLeastTablesOf : Page → List (List ℕ) → Type 0
AreLeastTablesOf page lists = AreLeastTables (page_row_bytes page.size page.dpi) (bitmap_rows page.bitmap) lists
