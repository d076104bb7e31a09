-- The start of a page text, number by number.
use Rattle.std.proofs.Common.{◌≡◌, ℕ, ◌<◌, ◌≤◌, List, [], ◌∷◌, ◌++◌, Some, None, refl, sym, ◌∙◌, append_assoc, arith}
use Rattle.pcl_check.proofs.Names.{copies_limit, decimal, codes, nat_tests, append_cancel_left, Dpi, Size, dots_per_inch, code_of, size_with_code, page_width, start_bytes, raster_start}
use Rattle.pcl_check.proofs.Decimals.{same_front}

abbrev pub first_bytes : List ℕ
first_bytes = 27 ∷ 38 ∷ 108 ∷ []

-- the same bytes in groups of another kind
regroup : (copies code dots width rest : List ℕ)
    → (27 ∷ codes "&l" ++ copies ++ codes "x" ++ code ++ codes "a0E" ++ 27 ∷ codes "*p0x0Y" ++ 27 ∷ codes "*t" ++ dots ++ codes "R"
    ++ 27 ∷ codes "*r" ++ width ++ codes "s0A") ++ rest
    ≡ first_bytes ++ (copies ++ 120 ∷ (code ++ 97 ∷ ((codes "0E" ++ 27 ∷ codes "*p0x0Y" ++ 27 ∷ codes "*t" ++ dots ++ codes "R"
    ++ 27 ∷ codes "*r" ++ width ++ codes "s0A") ++ rest)))
regroup copies code dots width rest = simp append_assoc

pub start_is : (dpi : Dpi) (copies : ℕ) (size : Size) (rest : List ℕ) → start_bytes dpi copies size ++ rest
    ≡ first_bytes ++ (decimal copies ++ 120 ∷ (decimal (code_of size) ++ 97 ∷ (raster_start size dpi ++ rest)))
start_is dpi copies size rest =
    regroup (decimal copies) (decimal (code_of size)) (decimal (dots_per_inch dpi)) (decimal (page_width size dpi)) rest

pub code_few : (size : Size) → code_of size < 100
code_few size = grind arith

pub size_coded : (size : Size) → size_with_code (code_of size) ≡ Some size
size_coded size = grind (arith, nat_tests)

-- what is read up to the copies, and up to the size
pub record IsCopies (text : List ℕ) (copies : ℕ) (rest : List ℕ) : Type 0 where
  pub few : copies ≤ 65536
  pub text_is : text ≡ first_bytes ++ (decimal copies ++ 120 ∷ rest)

pub record IsSize (text : List ℕ) (copies code : ℕ) (rest : List ℕ) : Type 0 where
  pub first : IsCopies text copies (decimal code ++ 97 ∷ rest)
  pub small : code ≤ 65536

-- by what is read of a text, one number after the other
pub copies_of : {text front : List ℕ} {copies : ℕ} {rest : List ℕ} → text ≡ first_bytes ++ front
    → (front ≡ decimal copies ++ 120 ∷ rest) × (copies ≤ 65536) → IsCopies text copies rest
copies_of begins read = record { few = read.1; text_is = cc }

pub size_of : {text front : List ℕ} {copies : ℕ} {more : List ℕ} {code : ℕ} {rest : List ℕ} → text ≡ first_bytes ++ front
    → (front ≡ decimal copies ++ 120 ∷ more) × (copies ≤ 65536) → (more ≡ decimal code ++ 97 ∷ rest) × (code ≤ 65536)
    → IsSize text copies code rest
size_of begins read next = record { first = copies_of begins (rw next.0 at read); small = next.1 }

-- a text that begins so and so
pub record BeginsAs (dpi : Dpi) (text : List ℕ) (copies : ℕ) (size : Size) (rest : List ℕ) : Type 0 where
  pub few : copies ≤ copies_limit
  pub text_is : text ≡ start_bytes dpi copies size ++ rest

module _ {dpi : Dpi} {text : List ℕ} {copies : ℕ} {size : Size} {rest : List ℕ} (is : BeginsAs dpi text copies size rest) where
  begins_as : text ≡ first_bytes ++ (decimal copies ++ 120 ∷ (decimal (code_of size) ++ 97 ∷ (raster_start size dpi ++ rest)))
  begins_as = is.text_is ∙ start_is dpi copies size rest

  pub begins_size : IsSize text copies (code_of size) (raster_start size dpi ++ rest)
  begins_size = record { first = record { few = omega (arith, is.few); text_is = begins_as }; small = omega (arith, code_few size) }

  pub no_copies : {front : List ℕ} → text ≡ first_bytes ++ front
      → ((n : ℕ) (more : List ℕ) → n ≤ 65535 → front ≡ decimal n ++ 120 ∷ more → ⊥) → ⊥
  no_copies {front} e none = none copies _ (omega (arith, is.few)) (append_cancel_left first_bytes front _ (sym e ∙ begins_as))

  pub copies_read : {n : ℕ} {more : List ℕ} → IsCopies text n more
      → (n ≡ copies) × (more ≡ decimal (code_of size) ++ 97 ∷ (raster_start size dpi ++ rest))
  copies_read read =
      same_front 120 read.few (omega (arith, is.few)) refl (append_cancel_left first_bytes _ _ (sym read.text_is ∙ begins_as))

  pub no_code : {n : ℕ} {more : List ℕ} → IsCopies text n more
      → ((code : ℕ) (after : List ℕ) → code ≤ 65535 → more ≡ decimal code ++ 97 ∷ after → ⊥) → ⊥
  no_code read none = none (code_of size) (raster_start size dpi ++ rest) (omega (arith, code_few size)) (copies_read read).1

  pub size_read : {n code : ℕ} {more : List ℕ} → IsSize text n code more
      → (n ≡ copies) × (code ≡ code_of size) × (more ≡ raster_start size dpi ++ rest)
  size_read read =
      let front = copies_read read.first in
      let after = same_front 97 read.small (omega (arith, code_few size)) refl front.1 in (front.0, after.0, after.1)

  pub no_size : {n code : ℕ} {more : List ℕ} → IsSize text n code more → size_with_code code ≡ None → ⊥
  no_size read none = let found = size_read read in let coded = size_coded size in absurd cc

  pub same_size : {n code : ℕ} {more : List ℕ} {found : Size} → IsSize text n code more → size_with_code code ≡ Some found → size ≡ found
  same_size read some = let found = size_read read in let coded = size_coded size in cc

  pub no_raster : {n code : ℕ} {more : List ℕ} {found : Size} → IsSize text n code more → size_with_code code ≡ Some found
      → ((after : List ℕ) → more ≡ raster_start found dpi ++ after → ⊥) → ⊥
  no_raster read some none = let found = size_read read in let same = same_size read some in none rest cc

pub begun : (dpi : Dpi) (text : List ℕ) (n code : ℕ) (more : List ℕ) (found : Size) (rest : List ℕ) → IsSize text n code more
    → size_with_code code ≡ Some found → more ≡ raster_start found dpi ++ rest → text ≡ start_bytes dpi n found ++ rest
begun dpi text n code more found rest read some e =
    let coded : code ≡ code_of found = grind (arith, nat_tests) in rw (read.first.text_is, coded, e) (sym (start_is dpi n found rest))
