-- The start of a page text, as it is written.
use Rattle.std.proofs.Common.{◌≡◌, ℕ, List, [], ◌∷◌, ◌++◌, ◌∙◌, append_assoc}
use Rattle.pcl_writer.proofs.Names.{decimal, Dpi, Size, dots_per_inch, code_of, page_width, start_bytes}

pub five_joined : (old a b c d e : List ℕ) {one two three four five : List ℕ} → one ≡ old ++ a → two ≡ one ++ b → three ≡ two ++ c → four
    ≡ three ++ d → five ≡ four ++ e → five ≡ old ++ (a ++ (b ++ (c ++ (d ++ e))))
five_joined old a b c d e p q r s t = t ∙ rw (s, r, q, p) (simp append_assoc)

pub start_regrouped : (dpi : Dpi) (copies : ℕ) (size : Size)
    → ((27 ∷ 38 ∷ 108 ∷ []) ++ decimal copies) ++ (((120 ∷ []) ++ decimal (code_of size)) ++
    (((97 ∷ 48 ∷ 69 ∷ 27 ∷ 42 ∷ 112 ∷ 48 ∷ 120 ∷ 48 ∷ 89 ∷ 27 ∷ 42 ∷ 116 ∷ []) ++ decimal (dots_per_inch dpi)) ++
    (((82 ∷ 27 ∷ 42 ∷ 114 ∷ []) ++ decimal (page_width size dpi)) ++ (115 ∷ 48 ∷ 65 ∷ [])))) ≡ start_bytes dpi copies size
start_regrouped dpi copies size = simp append_assoc
