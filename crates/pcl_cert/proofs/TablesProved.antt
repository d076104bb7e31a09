-- A table of a page is found Proved on a least text, and can be written as a certificate.
use Rattle.std.proofs.Common.{◌≡◌, ℕ, ◌+◌, ◌<◌, ◌≤◌, true, false, List, Option, Some, None, length, get_or, arith}
use Rattle.pcl_cert.proofs.Names.{decimal, row_limit, Method, page_height, code_of, Page, IsCodable, first_is_least, PrintsPage, IsLeastText, fixed_bytes, IsTableOf, RowNumbers, start, row_at, row_above, node_number, widths, text_of_least, row_small, AreGoodNumbers, IsLeastOfRow, feasible_good, code_few, Format, One, Two, list_of, number_at_place, table_of, AreLeastTablesOf, IsProof, HasLists, Tables, AreLeastOf, HasLeastLists, AreEdgesGood, IsVerdict}
use Rattle.pcl_cert.specs.declared.check.Verdict.TheVariants as verdicts
use Rattle.pcl_cert.proofs.FixedParts.{one_digit, two_digits, fixed_length}
use Rattle.pcl_cert.proofs.KeptLists.{table_number}
use Rattle.pcl_cert.proofs.ProvedLeast.{rows_of, width_of, few_rows, row_wide, above_wide}
use Rattle.pcl_cert.proofs.RowPlaces.{good_places}
use Rattle.pcl_cert.proofs.SmallNumbers.{number_small, numbers_small}

-- ---- the text

few_digits : (n : ℕ) → n < 100 → length (decimal n) ≤ 2
few_digits n few = grind (arith, one_digit {n = n}, two_digits {n = n})

module _ (page : Page) {text : List ℕ} {table : List RowNumbers} (is_of : IsTableOf page table) (printed : PrintsPage page text) where
  -- a least text has its fixed part and the number of the first node
  text_length : IsLeastText page.dpi page.size page.copies (rows_of page) (length text)
      → length text ≡ fixed_bytes page.dpi page.size page.copies + node_number table start
  text_length least =
      let other = text_of_least page.dpi page.size page.copies (rows_of page) (node_number table start)
      printed.some_copies printed.few_copies printed.count printed.rows_are is_of.least in
      omega (arith, other.shortest text printed, least.shortest other.attained.0 other.attained.1, other.attained.2)

  -- ---- the tables

  -- the length that a row is counted with is the least one
  first_least : {lists : List (List ℕ)} → AreLeastTablesOf page lists → {row : ℕ} {method : Method} {bytes : ℕ}
      → row < length (rows_of page) → bytes ≡ number_at_place lists row method 0
      → IsLeastOfRow (width_of page) (rows_of page) row method bytes
  first_least {lists} least {row} {method} within counted =
      let above : List ℕ = row_above (width_of page) (rows_of page) row in
      let list : List ℕ = list_of lists row method in
      let first : get_or (table_of (width_of page + 1) list) 0 0 ≡ get_or list 0 0 = table_number list (omega arith) in
      let codable : IsCodable above (row_at (rows_of page) row) = record {
        same_size = above_wide page printed within;
        small = omega (arith, row_wide page printed within, row_small page.size page.dpi);
      } in
      rw (counted, ← first) (first_is_least method above (row_at (rows_of page) row) (table_of (width_of page + 1) list) codable
      (least.least row method within))

  good_numbers : AreGoodNumbers (rows_of page) (IsLeastOfRow (width_of page) (rows_of page)) (node_number table)
  good_numbers = feasible_good (width_of page) (node_number table) (omega (arith, few_rows page printed)) is_of.feasible

  edges_good : {lists : List (List ℕ)} → AreLeastTablesOf page lists → AreEdgesGood page table (Some lists)
  edges_good least row method false within = good_numbers row method false (omega (arith, printed.count))
  edges_good least row method true within =
      let good = good_numbers row method true (omega (arith, printed.count)) in
      record {
        switches = good.switches;
        skips = good.skips;
        sends = λ bytes inside counted. good.sends bytes inside (first_least least inside counted);
      }

  -- ---- what a certificate says of it

  lists_of : (format : Format) (places : Option (List (List ℕ))) → HasLeastLists page format places
      → HasLists format (page_height page.size page.dpi) (width_of page) places
  lists_of One places has = has
  lists_of Two None has = has
  lists_of Two (Some lists) has = (omega (arith, has.size, printed.count), has.lists_are)

pub table_proved : (page : Page) (text : List ℕ) (table : List RowNumbers) (tables : Tables) → IsTableOf page table → PrintsPage page text
    → IsLeastText page.dpi page.size page.copies (rows_of page) (length text) → AreLeastOf page tables
    → IsVerdict page text table tables verdicts.Proved
table_proved page text table None is_of printed short least =
    let good = good_numbers page is_of printed in
    let many : length table ≡ page_height page.size page.dpi + 1 = omega (arith, is_of.size, printed.count) in
    (printed, many, tt, λ row method inside le. good row method inside (omega (arith, printed.count)), text_length page is_of printed short)
table_proved page text table (Some lists) is_of printed short least = (
  printed,
  (omega (arith, is_of.size, printed.count), omega (arith, least.size, printed.count)),
  λ row method place within in_row. good_places (least.least row method (omega (arith, printed.count))).table_is,
  edges_good page is_of printed least,
  text_length page is_of printed short,
)

pub table_certified : (page : Page) (text : List ℕ) (table : List RowNumbers) (format : Format) (places : Option (List (List ℕ)))
    → IsTableOf page table → PrintsPage page text → IsLeastText page.dpi page.size page.copies (rows_of page) (length text)
    → HasLeastLists page format places → IsProof page.dpi format record { text_len = length text; table = table; places = places }
table_certified page text table format places is_of printed short has =
    let are = widths page.size page.dpi (rows_of page) printed.rows_are in
    let narrow : width_of page ≤ row_limit = row_small page.size page.dpi in
    let few = few_rows page printed in
    let copies = few_digits page.copies (omega (arith, printed.few_copies)) in
    let code = few_digits (code_of page.size) (code_few page.size) in
    let first = number_small are narrow is_of.feasible few 0 start.method false (omega arith) in
    record {
      fits = record {
        size = page.size;
        height = omega (arith, is_of.size, printed.count);
        lists = lists_of page is_of printed format places has;
      };
      text_len = omega (arith, text_length page is_of printed short, fixed_length page.dpi page.size page.copies);
      numbers = numbers_small table are narrow few is_of.size is_of.feasible;
    }
