-- Pages that show one sheet are the same in all that a text prints.
use Rattle.std.proofs.Common.{◌≡◌, ℕ, ◌<◌, ◌≤◌, List, [], ◌∷◌, ◌++◌, length, sym, ap, ◌∙◌, arith}
use Rattle.pcl_meaning.proofs.Names.{length-append, Dpi, Size, page_width, page_height, Picture, same_dots, Page, Sheet, Shows, frame_bytes, IsPageText, PrintsPage, bitmap_rows, PrintEach, PrintsShortest, IsLeastJobText}

-- two pages with the same contents, whatever the proofs that they keep
pub record AreSame (page other : Page) : Type 0 where
  pub size : page.size ≡ other.size
  pub resolution : page.dpi ≡ other.dpi
  pub copies : page.copies ≡ other.copies
  pub bitmap : page.bitmap ≡ other.bitmap

-- the dots of a page's bitmap are within the sheet that it shows
within_sheet : {n : ℕ} (measure : Size → Dpi → ℕ) (dpi : Dpi) (page : Page) (sheet : Sheet) → Shows dpi page sheet
    → n < measure page.bitmap.size page.bitmap.dpi → n < measure sheet.size dpi
within_sheet {n} measure dpi page sheet shows lt = rw (← (page.dpi_is ∙ shows.resolution), ← (page.size_is ∙ shows.size)) lt

-- bitmaps with the same dots are the same, since bits past the width are clear
pub pages_same : {dpi : Dpi} {page other : Page} {sheet : Sheet} → Shows dpi page sheet → Shows dpi other sheet → AreSame page other
pages_same {dpi} {page} {other} {sheet} one two =
    let size = one.size ∙ sym two.size in
    let resolution = one.resolution ∙ sym two.resolution in
    record {
      size = size;
      resolution = resolution;
      copies = one.copies ∙ sym two.copies;
      bitmap = same_dots page.bitmap other.bitmap page.picture other.picture (page.size_is ∙ size ∙ sym other.size_is)
          (page.dpi_is ∙ resolution ∙ sym other.dpi_is)
          (λ x y wide high.
          let across = within_sheet page_width dpi page sheet one wide in
          let down = within_sheet page_height dpi page sheet one high in one.dots x y across down ∙ sym (two.dots x y across down));
    }

-- what holds of the contents of one page holds of those of the other
pub moved : (P : Size → Dpi → ℕ → Picture → Type 0) {page other : Page} → AreSame page other → P page.size page.dpi page.copies page.bitmap
    → P other.size other.dpi other.copies other.bitmap
moved P same p = rw (← same.size, ← same.resolution, ← same.copies, ← same.bitmap) p

-- a text that prints the one prints the other
pub prints_same : {page other : Page} {text : List ℕ} → AreSame page other → PrintsPage page text → PrintsPage other text
prints_same {text} same printed = moved (λ size dpi copies bitmap. IsPageText dpi size copies (bitmap_rows bitmap) text) same printed

-- ---- texts in order

pub least_together : (dpi : Dpi) (sheets : List Sheet) (texts others : List ℕ) → PrintEach PrintsShortest dpi sheets texts
    → PrintEach PrintsPage dpi sheets others → length texts ≤ length others
least_together dpi [] texts others l p = omega (arith, ap length l)
least_together dpi (sheet ∷ sheets) texts others l p =
    let first = l.2.2.1 p.0 (prints_same (pages_same p.2.1 l.2.1) p.2.2) in
    omega (arith, ap length l.3, ap length p.3, length-append {A = ℕ}, least_together dpi sheets l.1 p.1 l.4 p.4, first)

pub least_job : {dpi : Dpi} {sheets : List Sheet} (texts : List ℕ) {job : List ℕ} → PrintEach PrintsShortest dpi sheets texts
    → job ≡ frame_bytes ++ texts ++ frame_bytes → IsLeastJobText dpi sheets job
least_job {dpi} {sheets} texts l e = record {
  texts = texts;
  print = l;
  spelled = e;
  shortest = λ other is.
      let together = least_together dpi sheets texts is.texts l is.print in
      omega (arith, together, simp length-append at (ap length e), simp length-append at (ap length is.spelled));
}
