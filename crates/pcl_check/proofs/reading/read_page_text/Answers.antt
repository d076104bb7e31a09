use Rattle.std.proofs.Common.{◌≡◌, ℕ, ◌<◌, ◌≤◌, Bool, true, false, IsTrue, List, ◌++◌, length, take, Some, refl, sym, ap, ◌∙◌, append_assoc, arith, ◌==◌, ◌↔◌}
use Rattle.pcl_check.proofs.Names.{copies_limit, flat_map, take_all, append_cancel_left, append_assoc, Dpi, Size, page_height, page_row_bytes, Picture, token_bytes, start_bytes, end_bytes, IsPageText, bitmap_rows, length_rows, Start, IsStart, RestPrints, body_of, IsBodyVerdict, raster_start, Page, Decides-eqb, the_type}
use Rattle.pcl_check.proofs.Beginnings.{BeginsAs, begins_size, size_coded, size_read, same_size}
use denote.Enum.Bare.{sameb, same_true, true_same}
use Rattle.pcl_check.proofs.reading.read_page_text.Goals as goal

printed_text : {dpi : Dpi} {size : Size} {copies : ℕ} {rows : List (List ℕ)} {text rest : List ℕ} → 0 < copies → copies ≤ copies_limit
    → text ≡ start_bytes dpi copies size ++ rest → RestPrints size dpi (body_of size dpi rest) rows → IsPageText dpi size copies rows text
printed_text {dpi} {size} {copies} some few e p = record {
  some_copies = some;
  few_copies = few;
  count = p.count;
  rows_are = p.rows_are;
  tokens = p.tokens;
  spelled = e ∙ rw p.spelled (sym (append_assoc (start_bytes dpi copies size) (flat_map token_bytes p.tokens) end_bytes));
  prints = p.prints;
}

-- the body after the start of a page text
text_body : {dpi : Dpi} {size : Size} {copies : ℕ} {rows : List (List ℕ)} {text : List ℕ} → IsPageText dpi size copies rows text
    → (rest : List ℕ) × (text ≡ start_bytes dpi copies size ++ rest) × RestPrints size dpi (body_of size dpi rest) rows
text_body {dpi} {size} {copies} is = (
  flat_map token_bytes is.tokens ++ end_bytes,
  rw (append_assoc (start_bytes dpi copies size)) at is.spelled,
  record { count = is.count; rows_are = is.rows_are; tokens = is.tokens; spelled = refl; prints = is.prints },
)

-- ---- verdicts

-- the body of a page text that begins so
body_at : {dpi : Dpi} {text rest : List ℕ} (start : Start) {size : Size} {copies : ℕ} {rows : List (List ℕ)} → IsStart dpi text (Some start)
    → BeginsAs dpi text copies size rest → RestPrints size dpi (body_of size dpi rest) rows
    → (start.copies ≡ copies) × (start.size ≡ size) × RestPrints start.size dpi (body_of start.size dpi start.rest.now) rows
body_at {dpi} {text} {rest} start begun begins printed =
    let here : BeginsAs dpi text start.copies start.size start.rest.now = record { few = begun.1; text_is = begun.2 } in
    let found = size_read begins (begins_size here) in
    let same = same_size begins (begins_size here) (size_coded start.size) in
    let after = append_cancel_left (raster_start start.size dpi) start.rest.now rest (rw same at found.2) in
    (found.0, sym same, rw (sym same, after) printed)

-- rows of a page's size that begin its rows are all of them
whole_page : (picture : Picture) {rows : List (List ℕ)} → length rows ≡ page_height picture.size picture.dpi
    → rows ≡ take (length rows) (bitmap_rows picture) → rows ≡ bitmap_rows picture
whole_page picture {rows} n e =
    let all = bitmap_rows picture in
    let many : length all ≡ length rows =
    length_rows (page_height picture.size picture.dpi) (page_row_bytes picture.size picture.dpi) picture.bytes ∙ sym n in
    e ∙ take_all (length rows) all (omega arith)

-- whether the start is that of a page
abbrev CanMatch : Picture → ℕ → Start → Bool → Type 0
CanMatch picture copies start can_match = IsTrue can_match ↔ ((start.size ≡ picture.size) × (start.copies ≡ copies))

same_page : {picture : Picture} {copies : ℕ} {text : List ℕ} (start : Start) {can_match : Bool} → IsStart picture.dpi text (Some start)
    → CanMatch picture copies start can_match → IsBodyVerdict picture start.size start.rest.now can_match (Some true)
    → IsPageText picture.dpi picture.size copies (bitmap_rows picture) text
same_page {picture} {copies} {text} start begun may only =
    let same = only.same.0 refl in
    let is = may.0 same.0 in
    let count : length only.rows ≡ page_height picture.size picture.dpi =
    only.printed.count ∙ ap (λ (z : Size). page_height z picture.dpi) is.0 in
    rw (sym (whole_page picture count same.1), sym is.1, sym is.0) (printed_text begun.0 begun.1 begun.2 only.printed)

other_page : {picture : Picture} {copies : ℕ} {text : List ℕ} (start : Start) {can_match : Bool} → IsStart picture.dpi text (Some start)
    → CanMatch picture copies start can_match → IsBodyVerdict picture start.size start.rest.now can_match (Some false)
    → IsPageText picture.dpi picture.size copies (bitmap_rows picture) text → ⊥
other_page {picture} start begun may only is =
    let all = bitmap_rows picture in
    let printed = text_body is in
    let body = body_at start begun (record { few = is.few_copies; text_is = printed.1 }) printed.2 in
    let same : all ≡ only.rows = only.only all body.2 in
    let front : only.rows ≡ take (length only.rows) all = rw (sym same) (sym (take_all (length all) all (omega arith))) in
    let yes : false ≡ true = only.same.1 (may.1 (body.1, body.0), front) in cc

-- the start is that of the page where size and copies are
can_match_this : (page : Page) (start : Start) (test : Bool) {can_match : Bool} → test ≡ sameb the_type start.size page.size
    → (test ≡ true → can_match ≡ (start.copies == page.copies)) → (test ≡ false → can_match ≡ test)
    → CanMatch page.bitmap page.copies start can_match
can_match_this page start true e m other = (
  λ yes.
      let size = same_true the_type tt start.size page.size (sym e) in
      (size ∙ sym page.size_is, (Decides-eqb start.copies page.copies).0 (sym (m refl) ∙ yes)),
  λ h. m refl ∙ (Decides-eqb start.copies page.copies).1 h.1,
)
can_match_this page start false e m is = (
  λ yes. absurd (let not_so = is refl in cc),
  λ h. absurd (let other = true_same the_type start.size page.size (h.0 ∙ page.size_is) in cc),
)

pub returns-in_default : goal.returns-in_default
returns-in_default c = λ is.
    let body = text_body is.3 in c.in_default.ensures is.1 is.0 body.0 is.3.some_copies is.3.few_copies body.1

pub returns-in-None : goal.returns-in-None
returns-in-None c =
    let begun = rw (sym c.args.page.now.dpi_is) at c.in-Some.ensures in
    rw (sym c.args.page.now.dpi_is) (λ is.
    let body = text_body is.3 in
    c.in-None.ensures is.2 (body_at c.in-Some.start begun (record { few = is.3.few_copies; text_is = body.1 }) body.2).2)

pub returns-in-Some-true : goal.returns-in-Some-true
returns-in-Some-true c =
    let page = c.args.page.now in
    let may = can_match_this page c.in-Some.start c.eq.result c.eq.ensures
    (grind (arith, c.if-eq.branch)) (grind (arith, c.if-eq.branch)) in
    rw (sym page.size_is, sym page.dpi_is)
    (same_page c.in-Some.start (rw (sym page.dpi_is) at c.in-Some.ensures) may (rw c.in-Some-true.field-0-test at c.in-Some-true.ensures))

pub returns-in-Some-false : goal.returns-in-Some-false
returns-in-Some-false c =
    let page = c.args.page.now in
    let start = c.in-Some.start in
    let may = can_match_this page start c.eq.result c.eq.ensures (grind (arith, c.if-eq.branch)) (grind (arith, c.if-eq.branch)) in
    let only = rw c.in-Some-false.field-0-test at c.in-Some-false.ensures in
    let begun = rw (sym page.dpi_is) at c.in-Some.ensures in (
      rw (sym page.dpi_is) (start.size, start.copies, only.rows, printed_text begun.0 begun.1 begun.2 only.printed),
      λ is. other_page start begun may only (rw (sym page.size_is, sym page.dpi_is) at is),
    )
