-- What the checker answers of a text, with a table of numbers and perhaps row tables.
use Rattle.std.specs.Prelude.{◌≡◌, ℕ, ◌+◌, ◌*◌, ◌<◌, ◌≤◌, ◌⊎◌, Bool, List, length, Option, Some, None}
use Rattle.pcl_base.specs.declared.method.Method.{Method}
use Rattle.pcl_base.specs.Method.{method_code}
use Rattle.pcl_base.specs.Size.{page_height, page_row_bytes}
use Rattle.pcl_bitmap.specs.declared.page.Page.{Page}
use Rattle.pcl_output.specs.PageText.{PrintsPage, bitmap_rows}
use Rattle.pcl_base.specs.Walks.{IsFeasible}
use Rattle.pcl_output.specs.Nodes.{row_at, row_above, start, Leads, Ends, cost}
use Rattle.pcl_output.specs.LeastTexts.{fixed_bytes}
use Rattle.pcl_output.specs.Table.{node_number}
use Rattle.pcl_output.specs.declared.table.RowNumbers.{RowNumbers}
use Rattle.pcl_cert.specs.declared.check.Verdict.{Verdict}
use Rattle.pcl_cert.specs.declared.check.Verdict.TheVariants.{NotGrammar, OtherPage, Rows, Place, Edge, Length, Proved}
use Rattle.pcl_cert.specs.declared.check.places.BadPlace.{BadPlace}
use Rattle.pcl_cert.specs.RowTables.{list_of, number_at_place}
use Rattle.pcl_cert.specs.PageTables.{table_of, AreLeastTablesOf}
use Rattle.pcl_cert.specs.declared.format.Format.{Format}
use Rattle.pcl_cert.specs.declared.format.Format.TheVariants.{One, Two}
use Rattle.pcl_check.specs.TextVerdicts.{IsSomePageText}
use Rattle.pcl_check.specs.Edges.{IsGoodNumber, IsLeastOfRow, IsFirstBad}
use Rattle.pcl_check.specs.Places.{IsGoodPlace}

-- row tables, where there are any
abbrev pub Tables : Type 0
Tables = Option (List (List ℕ))

-- the rows of the tables are those of the page
abbrev pub AreOfPage : Page → List RowNumbers → Tables → Type 0
AreOfPage page table None = length table ≡ page_height page.size page.dpi + 1
AreOfPage page table (Some lists) =
    (length table ≡ page_height page.size page.dpi + 1) × (length lists ≡ 4 * page_height page.size page.dpi)

-- row tables of least numbers, where there are any
abbrev pub AreLeastOf : Page → Tables → Type 0
AreLeastOf page None = Unit {0}
AreLeastOf page (Some lists) = AreLeastTablesOf page lists

-- the same as they stand in a certificate: in the second format alone
abbrev pub HasLeastLists : Page → Format → Option (List (List ℕ)) → Type 0
HasLeastLists page One places = places ≡ None
HasLeastLists page Two None = ⊥
HasLeastLists page Two (Some lists) = AreLeastTablesOf page lists

-- ---- row tables

-- the number of a place of a row is good
abbrev pub IsGoodInTables : Page → List (List ℕ) → ℕ → Method → ℕ → Type 0
IsGoodInTables page lists row method place =
    let width = page_row_bytes page.size page.dpi in
    let rows = bitmap_rows page.bitmap in
    IsGoodPlace method (row_above width rows row) (row_at rows row) (table_of (width + 1) (list_of lists row method)) place

-- the first place whose number isn't good: row after row, in a row method after method, and then place after place
pub record IsFirstBadIn (page : Page) (lists : List (List ℕ)) (bad : BadPlace) : Type 0 where
  pub row_within : bad.row < page_height page.size page.dpi
  pub place_within : bad.place ≤ page_row_bytes page.size page.dpi
  pub is_bad : IsGoodInTables page lists bad.row bad.method bad.place → ⊥
  pub first : (row : ℕ) (method : Method) (place : ℕ) → place ≤ page_row_bytes page.size page.dpi
      → (row < bad.row)
      ⊎ ((row ≡ bad.row) × ((method_code method < method_code bad.method) ⊎ ((method ≡ bad.method) × (place < bad.place))))
      → IsGoodInTables page lists row method place

-- the numbers of all places of the page's rows are good, where there are row tables
abbrev pub ArePlacesGood : Page → Tables → Type 0
ArePlacesGood page None = Unit {0}
ArePlacesGood page (Some lists) = (row : ℕ) (method : Method) (place : ℕ) → row < page_height page.size page.dpi
    → place ≤ page_row_bytes page.size page.dpi → IsGoodInTables page lists row method place

-- the first place whose number isn't good, where there are row tables; without them there is none
abbrev pub IsFirstBadPlaceOf : Page → Tables → BadPlace → Type 0
IsFirstBadPlaceOf page None bad = ⊥
IsFirstBadPlaceOf page (Some lists) bad = IsFirstBadIn page lists bad

-- ---- the numbers of nodes

-- the length that a row is counted with: the least one, or the first number of its row table
abbrev pub Counted : Page → Tables → ℕ → Method → ℕ → Type 0
Counted page None row method bytes = IsLeastOfRow (page_row_bytes page.size page.dpi) (bitmap_rows page.bitmap) row method bytes
Counted page (Some lists) row method bytes = bytes ≡ number_at_place lists row method 0

-- the number of a node is good
abbrev pub IsGoodOf : Page → List RowNumbers → Tables → ℕ → Method → Bool → Type 0
IsGoodOf page table tables = IsGoodNumber (bitmap_rows page.bitmap) (Counted page tables) (node_number table)

-- the numbers of all nodes of the page are good
abbrev pub AreEdgesGood : Page → List RowNumbers → Tables → Type 0
AreEdgesGood page table tables = (row : ℕ) (method : Method) (inside : Bool) → row ≤ page_height page.size page.dpi
    → IsGoodOf page table tables row method inside

-- ---- verdicts

-- the length of the text is its fixed part and the number of the first node
abbrev pub IsOfLength : Page → List ℕ → List RowNumbers → Type 0
IsOfLength page text table = length text ≡ fixed_bytes page.dpi page.size page.copies + node_number table start

-- the first test that fails answers, in this order: the text is a page text, it prints the page, the tables have the page's
-- rows, the numbers of places are good, those of nodes are, and the text's length is that of the first node
abbrev pub IsVerdict : Page → List ℕ → List RowNumbers → Tables → Verdict → Type 0
IsVerdict page text table tables NotGrammar = IsSomePageText page.dpi text → ⊥
IsVerdict page text table tables OtherPage = IsSomePageText page.dpi text × (PrintsPage page text → ⊥)
IsVerdict page text table tables Rows = PrintsPage page text × (AreOfPage page table tables → ⊥)
IsVerdict page text table tables (Place row method place) = PrintsPage page text × AreOfPage page table tables
    × IsFirstBadPlaceOf page tables record { row = row; method = method; place = place }
IsVerdict page text table tables (Edge row method inside) = PrintsPage page text × AreOfPage page table tables × ArePlacesGood page tables
    × IsFirstBad (IsGoodOf page table tables) (page_height page.size page.dpi) record { row = row; method = method; inside = inside }
IsVerdict page text table tables Length = PrintsPage page text × AreOfPage page table tables × ArePlacesGood page tables
    × AreEdgesGood page table tables × (IsOfLength page text table → ⊥)
IsVerdict page text table tables Proved = PrintsPage page text × AreOfPage page table tables × ArePlacesGood page tables
    × AreEdgesGood page table tables × IsOfLength page text table

-- ---- what a yes says

-- the text prints the page, the tables have the page's rows, the numbers of nodes are undercut by no token that is true to the
-- page, in any spelling and with any data, and the text is as long as the number of the first node says
pub record IsBounded (page : Page) (text : List ℕ) (table : List RowNumbers) (tables : Tables) : Type 0 where
  pub printed : PrintsPage page text
  pub rows_agree : AreOfPage page table tables
  pub feasible : IsFeasible (Leads (page_row_bytes page.size page.dpi) (bitmap_rows page.bitmap)) (Ends (bitmap_rows page.bitmap)) cost
      (node_number table)
  pub of_length : IsOfLength page text table
