-- The pages of this number that two jobs have, which the comparison of the jobs speaks of.
use Rattle.std.proofs.Common.{◌≡◌, ◌∙◌, ℕ, ◌+◌, ◌-◌, List, [], ◌∷◌, ◌++◌, length, Some, Err, inl, inr, refl, sym, ap, subst, arith}
use Rattle.pcl_same.specs.Comparing.{IsComparisonBy}
use Rattle.pcl_same.specs.declared.comparison.PageComparison.TheVariants.{Page}
use Rattle.pcl_same.specs.declared.comparison.Difference.TheVariants.{Dot}
use Rattle.pcl_command.proofs.Names.{Profile, Stated, Drivers, slice_get, length-append, Dpi, Refusal, Picture, Said, IsReading, reading_again, fault_found_of, Sheet, HasPagesBy, IsRefusalBy, Fault, Refused, Memory, NoSuchPage, HasPage, HasNoPage, IsPageDots, alike_count, DifferInDots, IsDifferingPage, AreReadBy}

-- ---- a job has one list of pages

same_commands : {profile : Profile} {job : List ℕ} {commands others : List Said} → IsReading profile job commands
    → IsReading profile job others → commands ≡ others
same_commands r s = let a = reading_again r in let b = reading_again s in cc

same_pages : {profile : Profile} {dpi : Dpi} {job : List ℕ} {pages others : List Sheet} → HasPagesBy profile dpi job pages
    → HasPagesBy profile dpi job others → pages ≡ others
same_pages p q = p.ejected ∙ rw (same_commands p.reading q.reading) (sym q.ejected)

not_refused : {profile : Profile} (dpi : Dpi) (job : List ℕ) {pages : List Sheet} (refusal : Refusal) → HasPagesBy profile dpi job pages
    → IsRefusalBy profile dpi job refusal → ⊥
not_refused dpi job refusal p (inl f) = let a = reading_again p.reading in let b = fault_found_of f in absurd cc
not_refused dpi job refusal p (inr s) =
    let accepted = rw (same_commands p.reading s.reading) at p.accepted in let refused = s.refused in absurd cc

-- ---- the page of a number

at_seam : (before after : List Sheet) (page : Sheet) → slice_get (before ++ page ∷ after) (length before) ≡ Some page
at_seam [] after page = refl
at_seam (sheet ∷ before) after page = at_seam before after page

-- the job is accepted, and this is its page of this number
pub record Numbers (profile : Profile) (dpi : Dpi) (job : List ℕ) (number : ℕ) (page : Sheet) : Type 0 where
  before : List Sheet
  after : List Sheet
  meaning : HasPagesBy profile dpi job (before ++ page ∷ after)
  counted : number ≡ length before + 1

has_size : {profile : Profile} {dpi : Dpi} {job : List ℕ} {number : ℕ} {page : Sheet} {picture : Picture}
    → Numbers profile dpi job number page
    → HasPage profile dpi job number picture → (picture.size ≡ page.size) × (picture.dpi ≡ dpi)
has_size {dpi = dpi} {number = number} {page = page} {picture = picture} n h =
    let place : number - 1 ≡ length n.before = omega (arith, n.counted) in
    let some : Some h.sheet ≡ Some page = sym h.chosen ∙ rw (same_pages h.meaning n.meaning, place) (at_seam n.before n.after page) in
    let sheet : h.sheet ≡ page = cc in (
      ap (λ (p : Picture). p.size) h.dots ∙ h.page.size_is ∙ h.shows.size ∙ ap (λ (s : Sheet). s.size) sheet,
      ap (λ (p : Picture). p.dpi) h.dots ∙ h.page.dpi_is ∙ h.shows.resolution,
    )

is_there : {profile : Profile} {dpi : Dpi} {job : List ℕ} {number : ℕ} {page : Sheet} → Numbers profile dpi job number page
    → HasNoPage profile dpi job number → ⊥
is_there {number = number} {page = page} n h =
    let long : length h.pages ≡ length n.before + length (page ∷ n.after) =
    ap length (same_pages h.meaning n.meaning) ∙ length-append n.before (page ∷ n.after) in
    elim h.outside [ inl zero ↦ absurd (omega (arith, zero, n.counted)) | inr past ↦ absurd (omega (arith, past, long, n.counted)) ]

-- ---- two jobs

read_apart : {dpi : Dpi} {first second : List ℕ} → AreReadBy Drivers Stated dpi first second → AreReadBy Drivers Drivers dpi first second
    → ⊥
read_apart {dpi} {first} {second} both (inl refused) = not_refused dpi first refused.0 both.0.1 refused.1
read_apart {dpi} {first} {second} both (inr refused) = not_refused dpi second refused.0 both.1.1 refused.1

-- two jobs are read by one profile
one_read : (widest profile other : Profile) (dpi : Dpi) (first second : List ℕ) → AreReadBy widest profile dpi first second
    → AreReadBy widest other dpi first second → profile ≡ other
one_read widest Stated Stated dpi first second r s = refl
one_read widest Drivers Drivers dpi first second r s = refl
one_read Drivers Stated Drivers dpi first second r s = absurd (read_apart r s)
one_read Drivers Drivers Stated dpi first second r s = absurd (read_apart s r)
one_read Stated Stated Drivers dpi first second r s = absurd s
one_read Stated Drivers Stated dpi first second r s = absurd r

-- the pages of this number, of one size
pub record BothNumber (profile : Profile) (dpi : Dpi) (first second : List ℕ) (number : ℕ) : Type 0 where
  page : Sheet
  pub page_is : Numbers profile dpi first number page
  other : Sheet
  pub other_is : Numbers profile dpi second number other
  size : page.size ≡ other.size

pub both_number : (widest profile : Profile) (dpi : Dpi) (first second : List ℕ) (number : ℕ) → AreReadBy widest profile dpi first second
    → DifferInDots widest dpi first second number → BothNumber profile dpi first second number
both_number widest profile dpi first second number read d =
    let c = subst (λ (it : Profile). IsComparisonBy it dpi first second (Page number (Dot d.0 d.1)))
    (one_read widest d.2.0 profile dpi first second d.2.1 read) d.2.2 in
    let f = c.compare.1 in
    record {
      page = f.page;
      page_is = record {
        before = f.pages_before;
        after = f.pages_after;
        meaning = subst (HasPagesBy profile dpi first) f.pages_are c.meaning;
        counted = f.counted;
      };
      other = f.other;
      other_is = record {
        before = f.others_before;
        after = f.others_after;
        meaning = subst (HasPagesBy profile dpi second) f.others_are c.other_meaning;
        counted = f.counted ∙ ap (λ (n : ℕ). n + 1) (alike_count dpi f.pages_before f.others_before f.alike_before);
      };
      size = f.differ.0;
    }

pub page_fails : {profile : Profile} (widest : Profile) (dpi : Dpi) (job first second : List ℕ) (number : ℕ) {page : Sheet} (fault : Fault)
    → Numbers profile dpi job number page
    → IsPageDots profile dpi job number (Err fault) → IsDifferingPage widest dpi first second number (Err fault)
page_fails widest dpi job first second number Memory n p = tt
page_fails widest dpi job first second number (Refused refusal) n p = absurd (not_refused dpi job refusal n.meaning p)
page_fails widest dpi job first second number NoSuchPage n p = absurd (is_there n p)
page_fails widest dpi job first second number other n p = absurd p

pub same_size : (widest profile : Profile) (dpi : Dpi) (first second : List ℕ) (number : ℕ) {one other : Picture}
    → AreReadBy widest profile dpi first second → DifferInDots widest dpi first second number → HasPage profile dpi first number one
    → HasPage profile dpi second number other → (one.size ≡ other.size) × (one.dpi ≡ other.dpi)
same_size widest profile dpi first second number read d p q =
    let both = both_number widest profile dpi first second number read d in
    let one_is = has_size both.page_is p in let other_is = has_size both.other_is q in (cc both.size, cc)
