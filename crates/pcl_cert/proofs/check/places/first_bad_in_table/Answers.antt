use Rattle.std.proofs.Common.{◌≡◌, ◌+◌, ◌<◌, ℕ, List, length, sym, ◌∙◌, arith, refl, take, replicate}
use Rattle.pcl_cert.proofs.Names.{length-take, length-replicate, Method, page_height, page_row_bytes, row_of, Page, bitmap_rows, row_above, row_of_bytes, row_small, list_of, table_of}
use Rattle.pcl_cert.proofs.RowPlaces.{IsRowOfTables, none_bad, some_bad}
use Rattle.pcl_cert.proofs.check.places.first_bad_in_table.Goals as goal

-- what is found of a row, where a bitmap has its page's size and resolution
of_page : (page : Page) {lists : List (List ℕ)} {row : ℕ} {method : Method} {seed bytes numbers : List ℕ}
    → row < page_height page.size page.dpi
    → seed ≡ row_above (page_row_bytes page.bitmap.size page.bitmap.dpi) (bitmap_rows page.bitmap) row
    → bytes ≡ row_of page.bitmap row → length bytes ≡ page_row_bytes page.bitmap.size page.bitmap.dpi
    → numbers ≡ table_of (length {A = ℕ} (take (length bytes + 1) (replicate 601 0))) (list_of lists row method)
    → IsRowOfTables page lists row method seed bytes numbers
of_page page {lists} {row} {method} {bytes = bytes} lt s b w n =
    let height : ℕ = page_height page.bitmap.size page.bitmap.dpi in
    let width : ℕ = page_row_bytes page.bitmap.size page.bitmap.dpi in
    let wide : width ≡ page_row_bytes page.size page.dpi = rw (page.size_is, page.dpi_is) refl in
    let high : height ≡ page_height page.size page.dpi = rw (page.size_is, page.dpi_is) refl in
    let same : length {A = ℕ} (take (length bytes + 1) (replicate 601 0)) ≡ page_row_bytes page.size page.dpi + 1 =
    omega (arith, row_small page.bitmap.size page.bitmap.dpi, length-take {A = ℕ}, length-replicate {A = ℕ}) in
    record {
      seed_is = rw (← wide) s;
      bytes_are = b ∙ sym (row_of_bytes row height width page.bitmap.bytes (omega (arith, high, lt)));
      numbers_are = rw (← same) n;
      width = w ∙ wide;
    }

pub returns-in_err-place : goal.returns-in_err-place
returns-in_err-place c =
    rw c.from_residual.ensures (none_bad (of_page c.args.page.now c.requires.row c.row_above-seed.ensures.row c.row-bytes.ensures.bytes
    c.row-bytes.ensures.len c.copy_table.ensures) c.in_err-place.ensures)

pub returns : goal.returns
returns c =
    some_bad (of_page c.args.page.now c.requires.row c.row_above-seed.ensures.row c.row-bytes.ensures.bytes
    c.row-bytes.ensures.len c.copy_table.ensures) c.in_ok-place.ensures
