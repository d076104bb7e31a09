use Rattle.std.proofs.Common.{◌≡◌, ◌<◌, ℕ, List, sym}
use Rattle.pcl_check.proofs.Names.{Method, page_height, page_row_bytes, IsLeastLength, row_of, Page, row_above, bitmap_rows, row_of_bytes, IsLeastOfRow, least_alone}
use Rattle.pcl_check.proofs.edges.lengths.LeastByCodersRowLengths.length.Goals as goal

-- a least length for the bytes of the bitmap's rows is one for the page's rows
least_of_page : (page : Page) {method : Method} {seed row : List ℕ} {y least : ℕ} → y < page_height page.size page.dpi
    → seed ≡ row_above (page_row_bytes page.bitmap.size page.bitmap.dpi) (bitmap_rows page.bitmap) y → row ≡ row_of page.bitmap y
    → IsLeastLength method seed row least → IsLeastOfRow (page_row_bytes page.size page.dpi) (bitmap_rows page.bitmap) y method least
least_of_page page {method} {seed} {row} {y} {least} lt s r is =
    let picture = page.bitmap in
    let inside : y < page_height picture.size picture.dpi = rw (page.size_is, page.dpi_is) lt in
    let bytes = row_of_bytes y (page_height picture.size picture.dpi) (page_row_bytes picture.size picture.dpi) picture.bytes inside in
    rw (sym page.size_is, sym page.dpi_is, sym s, bytes, sym r) is

pub returns-clause-counts : goal.returns-clause-counts
returns-clause-counts c = least_of_page c.args.page.now c.requires.row c.row_above-seed.ensures.row c.row.ensures.bytes c.least.ensures

pub returns-clause-alone : goal.returns-clause-alone
returns-clause-alone c = λ bytes is.
    least_alone is (least_of_page c.args.page.now c.requires.row c.row_above-seed.ensures.row c.row.ensures.bytes c.least.ensures)
