-- The checker's yes: no text that prints the page is shorter.
use Rattle.std.proofs.Common.{◌≡◌, ℕ, ◌+◌, ◌<◌, ◌≤◌, List, Some, None, length, get_or, sym, ap, ◌∙◌, arith}
use Rattle.pcl_cert.proofs.Names.{page_row_bytes, Page, IsFeasible, first_bounds, PrintsPage, bitmap_rows, Leads, Ends, cost, row_at, row_above, node_number, RowNumbers, widths, text_bounded, row_width, above_width, list_of, number_at_place, BoundData, Tables, AreOfPage, ArePlacesGood, AreEdgesGood, IsBounded, IsVerdict, table_of, feasible_good, good_feasible, numbers_by_bounds, height_small, table_of_good}
use Rattle.pcl_cert.specs.declared.check.Verdict.TheVariants as verdicts
use Rattle.pcl_cert.proofs.KeptLists.{table_length, table_number}

-- ---- pages

abbrev pub rows_of : Page → List (List ℕ)
rows_of page = bitmap_rows page.bitmap

abbrev pub width_of : Page → ℕ
width_of page = page_row_bytes page.size page.dpi

module _ (page : Page) {text : List ℕ} (printed : PrintsPage page text) where
  pub few_rows : length (rows_of page) ≤ 9999
  few_rows = omega (arith, printed.count, height_small page.size page.dpi)

  pub row_wide : {row : ℕ} → row < length (rows_of page) → length (row_at (rows_of page) row) ≡ width_of page
  row_wide {row} lt = row_width (rows_of page) row (widths page.size page.dpi (rows_of page) printed.rows_are) lt

  pub above_wide : {row : ℕ} → row < length (rows_of page)
      → length (row_above (width_of page) (rows_of page) row) ≡ length (row_at (rows_of page) row)
  above_wide {row} lt =
      above_width (rows_of page) row (widths page.size page.dpi (rows_of page) printed.rows_are) (omega arith) ∙ sym (row_wide lt)

  -- no data is shorter than the first number of its row table
  bound_data : (lists : List (List ℕ)) → ArePlacesGood page (Some lists)
      → BoundData (width_of page) (rows_of page) (λ row method. number_at_place lists row method 0)
  bound_data lists places = λ row method whole lt has.
      let list : List ℕ = list_of lists row method in
      let numbers : List ℕ = table_of (width_of page + 1) list in
      let good = table_of_good {numbers = numbers} (table_length (width_of page + 1) list ∙ ap (λ (n : ℕ). n + 1) (sym (row_wide lt)))
      (λ place le. places row method place (omega (arith, printed.count)) (omega (arith, row_wide lt))) in
      let first : get_or numbers 0 0 ≡ get_or list 0 0 = table_number list (omega arith) in
      let bound = first_bounds method (row_above (width_of page) (rows_of page) row) (row_at (rows_of page) row) numbers whole
      (above_wide lt) good has in
      omega (arith, first)

  feasible_of : (table : List RowNumbers) (tables : Tables) → AreOfPage page table tables → ArePlacesGood page tables
      → AreEdgesGood page table tables → IsFeasible (Leads (width_of page) (rows_of page)) (Ends (rows_of page)) cost (node_number table)
  feasible_of table None size places good =
      good_feasible (width_of page) table (omega (arith, few_rows)) (omega (arith, size, printed.count))
      (λ row method inside le. good row method inside (omega (arith, printed.count)))
  feasible_of table (Some lists) size places good =
      numbers_by_bounds (width_of page) (rows_of page) table (λ row method. number_at_place lists row method 0)
      (omega (arith, few_rows)) (omega (arith, size.0, printed.count)) (bound_data lists places)
      (λ row method inside le. good row method inside (omega (arith, printed.count)))

-- what a yes says of the numbers of nodes, and what it takes for one without row tables
pub proved_bounded : (page : Page) (text : List ℕ) (table : List RowNumbers) (tables : Tables)
    → IsVerdict page text table tables verdicts.Proved → IsBounded page text table tables
proved_bounded page text table tables is = record {
  printed = is.0;
  rows_agree = is.1;
  feasible = feasible_of page is.0 table tables is.1 is.2 is.3;
  of_length = is.4;
}

pub bounded_proved : (page : Page) (text : List ℕ) (table : List RowNumbers) → IsBounded page text table None
    → IsVerdict page text table None verdicts.Proved
bounded_proved page text table is =
    let good = feasible_good (width_of page) (node_number table) (omega (arith, few_rows page is.printed)) is.feasible in
    (is.printed, is.rows_agree, tt, λ row method inside le. good row method inside (omega (arith, le, is.printed.count)), is.of_length)

pub proved_least : (page : Page) (text other : List ℕ) (table : List RowNumbers) (tables : Tables)
    → IsVerdict page text table tables verdicts.Proved → PrintsPage page other → length text ≤ length other
proved_least page text other table tables is printed =
    let feasible = feasible_of page is.0 table tables is.1 is.2 is.3 in
    omega (arith, text_bounded page.dpi page.size page.copies (bitmap_rows page.bitmap) other (node_number table) feasible printed, is.4)
