-- What is left of bytes that were compared with the images of the pages of a job.
use Rattle.std.proofs.Common.{◌≡◌, ◌≢◌, ℕ, List, [], ◌∷◌, ◌++◌, Bool, true, false, Option, Some, None, Ok, ◌↔◌, IsTrue, MatchOption, refl, sym, ap, ◌∙◌, arith, append_assoc}
use Rattle.std.specs.Borrow.{Bor}
use Rattle.pcl_preview.proofs.Names.{append-nil, append_cancel_left, Bitmap, Dpi, Profile, Page, Sheet, HasPagesBy, AllShow, Hands, SaysIfImages, images_in, image_of, header_of, Picture, IsLeftAfter, TakesImageOff, left_bytes}

pub stripped : (bytes first : List ℕ) (left : Option (Bor (List ℕ)))
    → MatchOption left ((rest : List ℕ) → bytes ≢ first ++ rest) (λ rest. bytes ≡ first ++ rest.now)
    → IsLeftAfter first (Some bytes) (left_bytes left)
stripped bytes first None cases = cases
stripped bytes first (Some rest) cases = cases

-- what is left after nothing
after_none : (left : Option (List ℕ)) → IsLeftAfter [] left left
after_none None = refl
after_none (Some bytes) = refl

-- what is left after two parts
pub after_both : (first second : List ℕ) (old mid new : Option (List ℕ)) → IsLeftAfter first old mid → IsLeftAfter second mid new
    → IsLeftAfter (first ++ second) old new
after_both first second None None new a b = b
after_both first second None (Some bytes) new a b = absurd (let same : Some bytes ≡ None = a in cc)
after_both first second (Some all) None None a b = λ rest same. a (second ++ rest) (same ∙ append_assoc first second rest)
after_both first second (Some all) None (Some left) a b = absurd (let same : Some left ≡ None = b in cc)
after_both first second (Some all) (Some bytes) None a b =
    λ rest same. b rest (append_cancel_left first bytes (second ++ rest) (sym a ∙ same ∙ append_assoc first second rest))
after_both first second (Some all) (Some bytes) (Some left) a b =
    a ∙ ap (λ (more : List ℕ). first ++ more) b ∙ sym (append_assoc first second left)

-- a page's image: its header, and then its rows
pub image_off : (picture : Picture) (header rows : List ℕ) (old same mid new : Option (List ℕ))
    → header ≡ header_of picture.size picture.dpi → rows ≡ picture.bytes → old ≡ same
    → IsLeftAfter header old mid → IsLeftAfter rows mid new → IsLeftAfter (image_of picture) same new
image_off picture header rows old same mid new header_is rows_is same_is a b =
    after_both (header_of picture.size picture.dpi) picture.bytes same mid new (rw (header_is, same_is) at a) (rw rows_is at b)

-- what a sink compared with the pages that it took
record HasCompared (dpi : Dpi) (sheets : List Sheet) (old new : Option (List ℕ)) : Type 0 where
  pub pages : List Page
  pub show : AllShow dpi pages sheets
  pub left : IsLeftAfter (images_in Bitmap pages) old new

has_compared : (dpi : Dpi) (sheets : List Sheet) (old new : Option (List ℕ)) → Hands TakesImageOff dpi sheets old new
    → HasCompared dpi sheets old new
has_compared dpi [] old new h = rw h (record { pages = []; show = tt; left = after_none old })
has_compared dpi (sheet ∷ sheets) old new h =
    let rest = has_compared dpi sheets h.1 new h.4 in
    record {
      pages = h.0 ∷ rest.pages;
      show = (h.2, rest.show);
      left = after_both (image_of h.0.bitmap) (images_in Bitmap rest.pages) old h.1 new h.3 rest.left;
    }

-- the bytes are the images where nothing is left of them
all_same : (images given : List ℕ) (new : Option (List ℕ)) → new ≡ Some [] → IsLeftAfter images (Some given) new → given ≡ images
all_same images given None none left = absurd (let same : None ≡ Some [] = none in cc)
all_same images given (Some rest) none left =
    let nothing : rest ≡ [] = cc in left ∙ ap (λ (more : List ℕ). images ++ more) nothing ∙ append-nil images

one_other : (images given : List ℕ) (new : Option (List ℕ)) → (new ≡ Some [] → ⊥) → IsLeftAfter images (Some given) new → images ≢ given
one_other images given None some left same = left [] (sym same ∙ sym (append-nil images))
one_other images given (Some rest) some left same =
    some (ap (λ (more : List ℕ). Some more) (append_cancel_left images rest [] (sym left ∙ sym same ∙ sym (append-nil images))))

-- what an answer says of what is left of the given bytes
pub compared : {profile : Profile} {dpi : Dpi} {job : List ℕ} {sheets : List Sheet} (given : List ℕ) (new left : Option (List ℕ))
    (answer : Bool) → HasPagesBy profile dpi job sheets → Hands TakesImageOff dpi sheets (Some given) new → left ≡ new
    → (IsTrue answer ↔ (left ≡ Some [])) → SaysIfImages profile dpi job given (Ok answer)
compared {dpi = dpi} {sheets = sheets} given new left true meaning h same says =
    let done = has_compared dpi sheets (Some given) new h in
    record {
      sheets = sheets;
      meaning = meaning;
      there = omega arith;
      pages = done.pages;
      show = done.show;
      images = all_same (images_in Bitmap done.pages) given new (sym same ∙ says.0 refl) done.left;
    }
compared {dpi = dpi} {sheets = sheets} given new left false meaning h same says =
    let done = has_compared dpi sheets (Some given) new h in (
      images_in Bitmap done.pages,
      record {
        sheets = sheets;
        meaning = meaning;
        there = omega arith;
        pages = done.pages;
        show = done.show;
        images = refl;
      },
      one_other (images_in Bitmap done.pages) given new (λ none. let yes : false ≡ true = says.1 (same ∙ none) in cc) done.left,
    )
