-- What a writer appends.
use Rattle.std.specs.Prelude.{◌≡◌, ℕ, ◌+◌, ◌*◌, ◌≤◌, List, ◌++◌, length}
use Rattle.pcl_base.specs.Size.{page_height}
use Rattle.pcl_bitmap.specs.declared.page.Page.{Page}
use Rattle.pcl_output.specs.Tokens.{command_count}
use Rattle.pcl_output.specs.PageText.{PrintsPage, bitmap_rows}
use Rattle.pcl_output.specs.Nodes.{start}
use Rattle.pcl_output.specs.Table.{node_number}
use Rattle.pcl_plan.specs.Plans.{StepsAndTable}
use Rattle.pcl_output.specs.LeastTexts.{IsLeastText, fixed_bytes}

-- The text is one that a page is written as: it prints the page, in at most three commands a row beside those of its
-- start and its end, and no text that prints the page is shorter.
abbrev pub IsWrittenPage : Page → List ℕ → Type 0
IsWrittenPage page text =
    (printed : PrintsPage page text) × (command_count printed.tokens ≤ 3 * page_height page.size page.dpi)
    × IsLeastText page.dpi page.size page.copies (bitmap_rows page.bitmap) (length text)

-- a page text is appended that is written for a page
abbrev pub AppendsPage : Page → List ℕ → List ℕ → Type 0
AppendsPage page old new = (text : List ℕ) × (new ≡ old ++ text) × IsWrittenPage page text

-- the bytes of a page's text along a plan: what doesn't depend on its rows, and the plan's cost
abbrev pub planned_bytes : Page → StepsAndTable → ℕ
planned_bytes page plan = fixed_bytes page.dpi page.size page.copies + node_number plan.table start
