-- Which page the sink keeps.
use Rattle.std.proofs.Common.{◌≡◌, ℕ, suc, zero, ◌-◌, ◌≤◌, List, [], ◌∷◌, length, Option, Some, None, Result, Ok, Err, inl, inr, refl, ap, ◌∙◌, arith, eqb, false}
use Rattle.pcl_preview.proofs.Names.{sub-one, nat_tests, slice_get, Keeps-refl, SomeIff, ok_or, Dpi, Profile, Stated, Picture, Page, Sheet, Shows, Hands, Chosen, HasPagesBy, Fault, Refused, Memory, WriteFault, NoSuchPage, image_of, IsImageWritten, HasPage, IsPageDots, IsPreview, chosen_after}

abbrev pub takes : Chosen → Page → Chosen → Type 0
takes old page new = new ≡ chosen_after old.skip old page.bitmap

-- a sink that keeps no further page stays as it is
stays : (dpi : Dpi) (sheets : List Sheet) {old new : Chosen} → old.skip ≡ None → Hands takes dpi sheets old new → new ≡ old
stays dpi [] e h = h
stays dpi (sheet ∷ sheets) {old} {new} e h =
    let mid_is : h.1 ≡ old = h.3 ∙ ap (λ (skip : Option ℕ). chosen_after skip old h.0.bitmap) e in
    stays dpi sheets (ap (λ (c : Chosen). c.skip) mid_is ∙ e) h.4 ∙ mid_is

-- the kept page shows the sheet at this place
record ShowsAt (dpi : Dpi) (sheets : List Sheet) (place : ℕ) (picture : Picture) : Type 0 where
  pub sheet : Sheet
  pub chosen : slice_get sheets place ≡ Some sheet
  pub page : Page
  pub shows : Shows dpi page sheet
  pub same : picture ≡ page.bitmap

-- the page at the place is kept, or there is none
abbrev Keeps : Dpi → List Sheet → ℕ → Option Picture → Type 0
Keeps dpi sheets place None = length sheets ≤ place
Keeps dpi sheets place (Some picture) = ShowsAt dpi sheets place picture

later : (dpi : Dpi) (sheet : Sheet) (sheets : List Sheet) (place : ℕ) (kept : Option Picture) → Keeps dpi sheets place kept
    → Keeps dpi (sheet ∷ sheets) (suc place) kept
later dpi sheet sheets place None k = omega arith
later dpi sheet sheets place (Some picture) k = record { sheet = k.sheet; chosen = k.chosen; page = k.page; shows = k.shows; same = k.same }

keeps_chosen : (dpi : Dpi) (sheets : List Sheet) (place : ℕ) {old : Chosen} (new : Chosen) → old.skip ≡ Some place → old.kept ≡ None
    → Hands takes dpi sheets old new → Keeps dpi sheets place new.kept
keeps_chosen dpi [] place new s k h = rw (h, k) (omega arith)
keeps_chosen dpi (sheet ∷ sheets) zero {old} new s k h =
    let mid_is : h.1 ≡ record { skip = None; kept = Some h.0.bitmap } = rw s at h.3 in
    rw (stays dpi sheets (ap (λ (c : Chosen). c.skip) mid_is) h.4, mid_is)
    (record { sheet = sheet; chosen = refl; page = h.0; shows = h.2; same = refl })
keeps_chosen dpi (sheet ∷ sheets) (suc place) {old} new s k h =
    let more : eqb (suc place) 0 ≡ false = grind (arith, nat_tests) in
    let mid_is : h.1 ≡ record { skip = Some place; kept = old.kept } = rw (s, more, sub-one) at h.3 in
    later dpi sheet sheets place new.kept (keeps_chosen dpi sheets place {old = h.1} new (rw mid_is) (rw mid_is k) h.4)

-- ---- previews

-- what a sink keeps by how many pages it skips: none where it skips all
abbrev KeepsBy : Dpi → List Sheet → Option ℕ → Option Picture → Type 0
KeepsBy dpi sheets None kept = kept ≡ None
KeepsBy dpi sheets (Some place) kept = Keeps dpi sheets place kept

keeps : (dpi : Dpi) (sheets : List Sheet) (skip : Option ℕ) {old : Chosen} (new : Chosen) → old.skip ≡ skip → old.kept ≡ None
    → Hands takes dpi sheets old new → KeepsBy dpi sheets skip new.kept
keeps dpi sheets None new s k h = rw (stays dpi sheets s h) k
keeps dpi sheets (Some place) new s k h = keeps_chosen dpi sheets place new s k h

-- pages before page number n are skipped, all for 0
dots_of : {profile : Profile} {dpi : Dpi} {job : List ℕ} (number : ℕ) {pages : List Sheet} (skip : Option ℕ) (kept : Option Picture)
    → HasPagesBy profile dpi job pages
    → SomeIff skip (1 ≤ number) (number - 1) → KeepsBy dpi pages skip kept → IsPageDots profile dpi job number (ok_or kept NoSuchPage)
dots_of number {pages} None None m n k = record { pages = pages; meaning = m; outside = inl (omega arith) }
dots_of number None (Some picture) m n k = absurd (let same : Some picture ≡ None = k in cc)
dots_of number {pages} (Some place) None m n k = record { pages = pages; meaning = m; outside = inr (omega arith) }
dots_of number {pages} (Some place) (Some picture) m n k =
    let before : place ≡ number - 1 = omega arith in
    record {
      pages = pages;
      meaning = m;
      counted = omega arith;
      sheet = k.sheet;
      chosen = rw before at k.chosen;
      page = k.page;
      shows = k.shows;
      dots = k.same;
    }

pub dots_kept : {profile : Profile} (dpi : Dpi) (job : List ℕ) (number : ℕ) {pages : List Sheet} (skip : Option ℕ)
    {old : Chosen} (new : Chosen)
    {result : Result Picture Fault} → HasPagesBy profile dpi job pages → SomeIff skip (1 ≤ number) (number - 1) → old.skip ≡ skip
    → old.kept ≡ None → Hands takes dpi pages old new → result ≡ ok_or new.kept NoSuchPage → IsPageDots profile dpi job number result
dots_kept dpi job number {pages} skip new m n s k h e = rw e (dots_of number skip new.kept m n (keeps dpi pages skip new s k h))

-- the page can't be shown
pub unseen : (dpi : Dpi) (job : List ℕ) (number : ℕ) (held : Option (List ℕ)) (fault : Fault) → IsPageDots Stated dpi job number (Err fault)
    → IsPreview dpi job number held held (Err fault)
unseen dpi job number held (Refused refusal) n = (n, Keeps-refl held)
unseen dpi job number held NoSuchPage n = (n, Keeps-refl held)
unseen dpi job number held Memory n = Keeps-refl held
unseen dpi job number held fault n = absurd n

pub previewed : {dpi : Dpi} {job : List ℕ} {number : ℕ} (old new : Option (List ℕ)) (picture : Picture) (result : Result (Unit {0}) Fault)
    → HasPage Stated dpi job number picture → IsImageWritten old new picture result → IsPreview dpi job number old new result
previewed old new picture (Ok done) p w = (image_of picture, (picture, p, refl), w)
previewed old new picture (Err WriteFault) p w = (image_of picture, (picture, p, refl), w)
previewed old new picture (Err Memory) p w = w
previewed old new picture result p w = absurd w
