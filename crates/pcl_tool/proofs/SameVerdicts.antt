-- Where a text is found Proved for one page, it is for each page that shows the same sheet.
use Rattle.std.proofs.Common.{◌≡◌, ℕ, ◌+◌, ◌*◌, ◌<◌, ◌≤◌, Bool, List, Some, None, length, refl}
use Rattle.pcl_tool.proofs.Names.{Method, page_height, page_row_bytes, Page, fixed_bytes, row_at, row_above, start, IsPageText, bitmap_rows, node_number, RowNumbers, IsGoodNumber, IsLeastOfRow, IsGoodPlace, Verdict, NotGrammar, OtherPage, Rows, Place, Edge, Length, Proved, list_of, number_at_place, table_of, Tables, IsVerdict, AreSame, moved}

-- a text that is found Proved for one is for the other
proved_again : {page other : Page} {text : List ℕ} (table : List RowNumbers) (tables : Tables) → AreSame page other
    → IsVerdict page text table tables Proved → IsVerdict other text table tables Proved
proved_again {text} table None same p =
    moved (λ size dpi copies bitmap. IsPageText dpi size copies (bitmap_rows bitmap) text × (length table ≡ page_height size dpi + 1)
    × Unit {0} × ((row : ℕ) (method : Method) (inside : Bool) → row ≤ page_height size dpi
    → IsGoodNumber (bitmap_rows bitmap) (λ r m bytes. IsLeastOfRow (page_row_bytes size dpi) (bitmap_rows bitmap) r m bytes)
    (node_number table) row method inside) × (length text ≡ fixed_bytes dpi size copies + node_number table start)) same p
proved_again {text} table (Some lists) same p =
    moved (λ size dpi copies bitmap. IsPageText dpi size copies (bitmap_rows bitmap) text
    × ((length table ≡ page_height size dpi + 1) × (length lists ≡ 4 * page_height size dpi))
    × ((row : ℕ) (method : Method) (place : ℕ) → row < page_height size dpi → place ≤ page_row_bytes size dpi
    → IsGoodPlace method (row_above (page_row_bytes size dpi) (bitmap_rows bitmap) row) (row_at (bitmap_rows bitmap) row)
    (table_of (page_row_bytes size dpi + 1) (list_of lists row method)) place)
    × ((row : ℕ) (method : Method) (inside : Bool) → row ≤ page_height size dpi
    → IsGoodNumber (bitmap_rows bitmap) (λ r m bytes. bytes ≡ number_at_place lists r m 0) (node_number table) row method inside)
    × (length text ≡ fixed_bytes dpi size copies + node_number table start)) same p

-- and nothing else is found
pub verdict_again : {page other : Page} {text : List ℕ} (table : List RowNumbers) (tables : Tables) (verdict : Verdict) → AreSame page other
    → IsVerdict page text table tables Proved → IsVerdict other text table tables verdict → verdict ≡ Proved
verdict_again {other} table tables NotGrammar same p v =
    absurd (v (other.size, other.copies, bitmap_rows other.bitmap, (proved_again table tables same p).0))
verdict_again table tables OtherPage same p v = absurd (v.1 (proved_again table tables same p).0)
verdict_again table tables Rows same p v = absurd (v.1 (proved_again table tables same p).1)
verdict_again table None (Place row method place) same p v = absurd v.2
verdict_again table (Some lists) (Place row method place) same p v =
    absurd (v.2.is_bad ((proved_again table (Some lists) same p).2 row method place v.2.row_within v.2.place_within))
verdict_again table tables (Edge row method inside) same p v =
    absurd (v.3.is_bad ((proved_again table tables same p).3 row method inside v.3.within))
verdict_again table tables Length same p v = absurd (v.4 (proved_again table tables same p).4)
verdict_again table tables Proved same p v = refl
