-- What a sink holds that made images of the pages of a job.
use Rattle.std.proofs.Common.{◌≡◌, ℕ, suc, zero, ◌≤◌, ◌==◌, if◌then◌else◌, List, [], ◌∷◌, ◌++◌, length, Bool, true, false, Option, Some, None, Result, Ok, Err, refl, sym, ap, subst, ◌∙◌, arith, append_assoc, append-nil, eqb, ◌↔◌}
use Rattle.pcl_preview.proofs.Names.{ImageForm, nat_tests, Keeps-refl, Dpi, Profile, Page, Sheet, HasPagesBy, AllShow, Hands, Fault, Refused, Memory, WriteFault, NoSuchPage, PageChoice, All, Listed, IsWritten, chosen, those_listed, last_listed, AreThere, images_in, AreImagesIn, LacksPage, ArePageImages, IsPagesPreview, Showing, flags_of, later, next_image, shown_after, IsMet, IsMetBy}

abbrev pub shows_next : Showing → Page → Showing → Type 0
shows_next old page new = new ≡ shown_after old page

some_more : (n : ℕ) → eqb (suc n) 0 ≡ false
some_more n = grind (arith, nat_tests)

-- the pages that are asked for, of which these are left
abbrev pub left_by : Option (List Bool) → List Page → List Page
left_by None pages = pages
left_by (Some flags) pages = those_listed flags pages

-- of this many pages none is missing
abbrev pub AreLeft : Option (List Bool) → ℕ → Type 0
AreLeft None number = Unit {0}
AreLeft (Some flags) number = last_listed flags ≤ number

-- the image of the first page, if it is asked for, and those of the later ones
pub next_and_later : (form : ImageForm) (left : Option (List Bool)) (page : Page) (pages : List Page)
    → images_in form (left_by left (page ∷ pages)) ≡ next_image form left page ++ images_in form (left_by (later left) pages)
next_and_later form None page pages = refl
next_and_later form (Some []) page pages = refl
next_and_later form (Some (true ∷ flags)) page pages = refl
next_and_later form (Some (false ∷ flags)) page pages = refl

-- a flag before the others
one_later : (flag : Bool) (last number : ℕ)
    → ((if last == 0 then (if flag then 1 else 0) else suc last) ≤ suc number) ↔ (last ≤ number)
one_later true zero number = (λ there. omega arith, λ there. omega arith)
one_later false zero number = (λ there. omega arith, λ there. omega arith)
one_later flag (suc last) number = rw (some_more last) (λ there. omega (arith, there), λ there. omega (arith, there))

-- what is missing of the later pages is missing of all
pub there_later : (left : Option (List Bool)) (number : ℕ) → AreLeft left (suc number) ↔ AreLeft (later left) number
there_later None number = (λ there. tt, λ there. tt)
there_later (Some []) number = (λ there. omega arith, λ there. omega arith)
there_later (Some (flag ∷ flags)) number = one_later flag (last_listed flags) number

-- what a sink made of the pages that it took
pub record HasShown (dpi : Dpi) (sheets : List Sheet) (old new : Showing) : Type 0 where
  pub pages : List Page
  pub show : AllShow dpi pages sheets
  pub images : new.images ≡ old.images ++ images_in old.form (left_by old.left pages)
  pub met : AreLeft old.left (length sheets) ↔ IsMet new.left

pub none_left : (form : ImageForm) (left : Option (List Bool)) → images_in form (left_by left []) ≡ []
none_left form None = refl
none_left form (Some []) = refl
none_left form (Some (flag ∷ flags)) = refl

pub met_of_none : (left : Option (List Bool)) → AreLeft left 0 ↔ IsMet left
met_of_none None = (λ there. tt, λ met. tt)
met_of_none (Some flags) = (λ there. omega (arith, there), λ met. omega (arith, met))

pub has_shown : (dpi : Dpi) (sheets : List Sheet) (old new : Showing) → Hands shows_next dpi sheets old new → HasShown dpi sheets old new
has_shown dpi [] old new h = rw h (record {
  pages = [];
  show = tt;
  images = rw (none_left old.form old.left, append-nil);
  met = met_of_none old.left;
})
has_shown dpi (sheet ∷ sheets) old new h =
    let rest = has_shown dpi sheets (shown_after old h.0) new (subst (λ (mid : Showing). Hands shows_next dpi sheets mid new) h.3 h.4) in
    let there = there_later old.left (length sheets) in
    record {
      pages = h.0 ∷ rest.pages;
      show = (h.2, rest.show);
      images = rest.images
          ∙ rw (next_and_later old.form old.left h.0 rest.pages) (append_assoc old.images (next_image old.form old.left h.0) _);
      met = (λ all. rest.met.0 (there.0 all), λ met. there.1 (rest.met.1 met));
    }

-- ---- previews

-- what is left at first, and how many pages have to be there
pub chosen_left : (choice : PageChoice) (pages : List Page) → left_by (flags_of choice) pages ≡ chosen choice pages
chosen_left All pages = refl
chosen_left (Listed set) pages = refl

pub there_left : (choice : PageChoice) (number : ℕ) → AreLeft (flags_of choice) number ↔ AreThere choice number
there_left All number = (λ there. omega arith, λ there. tt)
there_left (Listed set) number = (λ there. there, λ there. there)

pub all_made : {profile : Profile} {dpi : Dpi} {job : List ℕ} {sheets : List Sheet} (old new : Showing) {choice : PageChoice}
    {form : ImageForm} {images : List ℕ} → HasPagesBy profile dpi job sheets → Hands shows_next dpi sheets old new
    → old.left ≡ flags_of choice → old.form ≡ form → old.images ≡ [] → new.images ≡ images → IsMet new.left
    → AreImagesIn form profile dpi job choice images
all_made {dpi = dpi} {sheets = sheets} old new {choice = choice} meaning h left_is form_is none images_are met =
    let shown = has_shown dpi sheets old new h in
    record {
      sheets = sheets;
      meaning = meaning;
      there = (there_left choice (length sheets)).0 (rw (← left_is) (shown.met.1 met));
      pages = shown.pages;
      show = shown.show;
      images = sym images_are ∙ shown.images ∙ ap (λ (before : List ℕ). before ++ images_in old.form (left_by old.left shown.pages)) none
          ∙ ap (λ (left : Option (List Bool)). images_in old.form (left_by left shown.pages)) left_is
          ∙ ap (images_in old.form) (chosen_left choice shown.pages)
          ∙ ap (λ (form : ImageForm). images_in form (chosen choice shown.pages)) form_is;
    }

pub one_lacks : {profile : Profile} {dpi : Dpi} {job : List ℕ} {sheets : List Sheet} (old new : Showing) (choice : PageChoice)
    → HasPagesBy profile dpi job sheets → Hands shows_next dpi sheets old new → old.left ≡ flags_of choice → (IsMet new.left → ⊥)
    → LacksPage profile dpi job choice
one_lacks {dpi = dpi} {sheets = sheets} old new choice meaning h left_is unmet =
    (sheets, meaning, λ there. unmet ((has_shown dpi sheets old new h).met.0 (rw left_is ((there_left choice (length sheets)).1 there))))

-- what an answer says of what is still asked for
pub met_by : {left other : Option (List Bool)} (met : Bool) → left ≡ other → met ≡ true → IsMetBy left met → IsMet other
met_by met same is by = rw (← same) (rw is at by)

pub unmet_by : {left other : Option (List Bool)} (met : Bool) → left ≡ other → met ≡ false → IsMetBy left met → IsMet other → ⊥
unmet_by met same is by = rw (← same) (rw is at by)

pub none_shown : (form : ImageForm) (profile : Profile) (dpi : Dpi) (job : List ℕ) (choice : PageChoice) (held : Option (List ℕ))
    (fault : Fault) → ArePageImages form profile dpi job choice (Err fault)
    → IsPagesPreview form profile dpi job choice held held (Err fault)
none_shown form profile dpi job choice held (Refused refusal) n = (n, Keeps-refl held)
none_shown form profile dpi job choice held NoSuchPage n = (n, Keeps-refl held)
none_shown form profile dpi job choice held Memory n = Keeps-refl held
none_shown form profile dpi job choice held fault n = absurd n

pub all_shown : {form : ImageForm} {profile : Profile} {dpi : Dpi} {job : List ℕ} {choice : PageChoice} (old new : Option (List ℕ))
    (images : List ℕ) (result : Result (Unit {0}) Fault) → AreImagesIn form profile dpi job choice images
    → IsWritten old new images result → IsPagesPreview form profile dpi job choice old new result
all_shown old new images (Ok done) made written = (images, made, written)
all_shown old new images (Err WriteFault) made written = (images, made, written)
all_shown old new images result made written = absurd written
