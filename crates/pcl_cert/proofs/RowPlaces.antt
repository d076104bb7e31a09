-- Good places of a row.
use Rattle.std.proofs.Common.{◌≡◌, ℕ, ◌+◌, ◌<◌, ◌≤◌, inl, inr, List, Option, Some, None, is_some, true, false, length, arith}
use Rattle.pcl_cert.proofs.Names.{Method, BadPlace, page_height, page_row_bytes, Page, IsRowTable, bitmap_rows, row_at, row_above, method_small, list_of, IsGoodPlace, IsFirstPlace, FindsPlace, IsGoodInTables, Tables, FindsBadBelow, FindsBadIn, table_of}

pub good_places : {method : Method} {seed row numbers : List ℕ} → IsRowTable method seed row numbers → {place : ℕ}
    → IsGoodPlace method seed row numbers place
good_places is {place} = record { steps = λ e next leads. is.feasible.steps place e next leads; ends = λ ends. is.feasible.ends place ends }

-- what is found of a row's numbers, as those of the page's row
pub record IsRowOfTables (page : Page) (lists : List (List ℕ)) (row : ℕ) (method : Method) (seed bytes numbers : List ℕ) : Type 0 where
  pub seed_is : seed ≡ row_above (page_row_bytes page.size page.dpi) (bitmap_rows page.bitmap) row
  pub bytes_are : bytes ≡ row_at (bitmap_rows page.bitmap) row
  pub numbers_are : numbers ≡ table_of (page_row_bytes page.size page.dpi + 1) (list_of lists row method)
  pub width : length bytes ≡ page_row_bytes page.size page.dpi

module _ {page : Page} {lists : List (List ℕ)} {row : ℕ} {method : Method} {seed bytes numbers : List ℕ}
    (is : IsRowOfTables page lists row method seed bytes numbers) where
  good_in : {place : ℕ} → IsGoodPlace method seed bytes numbers place → IsGoodInTables page lists row method place
  good_in good = rw (← is.seed_is, ← is.bytes_are, ← is.numbers_are) good

  pub none_bad : IsRowTable method seed bytes numbers
      → FindsPlace (IsGoodInTables page lists row method) (page_row_bytes page.size page.dpi) None
  none_bad table = λ place le. good_in (good_places table)

  pub some_bad : {place : ℕ} → IsFirstPlace (IsGoodPlace method seed bytes numbers) (length bytes) place
      → FindsPlace (IsGoodInTables page lists row method) (page_row_bytes page.size page.dpi) (Some place)
  some_bad bad = record {
    within = omega (arith, bad.within, is.width);
    is_bad = λ good. bad.is_bad (rw (is.seed_is, is.bytes_are, is.numbers_are) good);
    first = λ before lt. good_in (bad.first before lt);
  }

-- ---- the rows of a page

module _ (page : Page) (lists : List (List ℕ)) {row : ℕ}
    (above : (r : ℕ) (m : Method) (p : ℕ) → r < row → p ≤ page_row_bytes page.size page.dpi → IsGoodInTables page lists r m p) where
  pub rows_on : (found : Option BadPlace) → FindsBadBelow page lists row 4 found → is_some found ≡ false
      → (r : ℕ) (m : Method) (p : ℕ) → r < row + 1 → p ≤ page_row_bytes page.size page.dpi → IsGoodInTables page lists r m p
  rows_on None here none = λ r m p lt le. grind (arith, above r m p, here m p, method_small m)
  rows_on (Some bad) here none = absurd cc

  pub rows_end : {tables : Tables} (found : Option BadPlace) → tables ≡ Some lists → row < page_height page.size page.dpi
      → FindsBadBelow page lists row 4 found → is_some found ≡ true → FindsBadIn page tables found
  rows_end None e lt here some = absurd cc
  rows_end (Some bad) e lt here some = rw e (record {
    row_within = omega (arith, here.row_is);
    place_within = here.place_within;
    is_bad = here.is_bad;
    first = λ r m p le h. elim h [
      | inl before ↦ above r m p (omega (arith, before, here.row_is)) le
      | inr same ↦ rw (same.0, here.row_is) (here.first m p le same.1)
    ];
  })
