-- The front of what a line says tells what it asks for.
use Rattle.std.proofs.Common.{◌≡◌, ℕ, zero, suc, ◌<◌, ◌≤◌, ◌==◌, Bool, true, false, ◌&&◌, nat_eq, List, [], ◌∷◌, ◌++◌, length, take, refl, sym, ap, append-nil, eqb-true, arith}
use Rattle.pcl_escape.proofs.Names.{codes, starts_with, to_ascii_uppercase, bytes_eq, map-append, filter-append, nat_tests, full_front, longer_front, is_white_space, squeezed, names_language, names_pcl}

-- a byte after the line says what it says alone
squeezed_more : (line : List ℕ) (byte : ℕ) → squeezed (line ++ byte ∷ []) ≡ squeezed line ++ squeezed (byte ∷ [])
squeezed_more line byte = simp (filter-append, map-append)

-- ---- one byte more of the line

pub blank_step : {front : List ℕ} (line : List ℕ) (byte : ℕ) → front ≡ take 22 (squeezed line) → true ≡ is_white_space byte
    → front ≡ take 22 (squeezed (line ++ byte ∷ []))
blank_step line byte so_far e = rw (so_far, squeezed_more line byte, ← e) (simp append-nil)

-- a byte that says something, in upper case
squeezed_other : (line : List ℕ) (byte : ℕ) → false ≡ is_white_space byte
    → squeezed (line ++ byte ∷ []) ≡ squeezed line ++ to_ascii_uppercase byte ∷ []
squeezed_other line byte e = rw (squeezed_more line byte, ← e) refl

pub full_step : {front : List ℕ} (line : List ℕ) (byte : ℕ) → front ≡ take 22 (squeezed line) → false ≡ is_white_space byte
    → true ≡ (length front == 22) → front ≡ take 22 (squeezed (line ++ byte ∷ []))
full_step line byte so_far e full =
    rw (so_far, squeezed_other line byte e)
    (full_front 22 (squeezed line) (to_ascii_uppercase byte) (rw so_far at (eqb-true _ 22 (sym full))))

pub push_step : {front : List ℕ} (line : List ℕ) (byte : ℕ) → front ≡ take 22 (squeezed line) → false ≡ is_white_space byte
    → false ≡ (length front == 22) → length front ≤ 22 → front ++ to_ascii_uppercase byte ∷ [] ≡ take 22 (squeezed (line ++ byte ∷ []))
push_step {front} line byte so_far e other within =
    let room : length front < 22 = grind (arith, nat_tests) in
    let short = rw so_far at room in
    rw (so_far, squeezed_other line byte e) (longer_front 22 (squeezed line) (to_ascii_uppercase byte) short)

-- ---- what the front tells

-- a front longer than a word is the word where all is
front_is : (word : List ℕ) (n : ℕ) (said : List ℕ) → length word < n → bytes_eq (take n said) word ≡ bytes_eq said word
front_is word zero said h = absurd (omega arith)
front_is (c ∷ word) (suc n) (first ∷ said) h = ap (λ (b : Bool). nat_eq first c && b) (front_is word n said (omega arith))
front_is [] (suc n) [] h = refl
front_is _ (suc n) _ h = refl

-- a front as long as a word begins with the word where all does
front_begins : (word : List ℕ) (n : ℕ) (said : List ℕ) → length word ≤ n
    → starts_with nat_eq (take n said) word ≡ starts_with nat_eq said word
front_begins [] n said h = refl
front_begins (c ∷ word) zero said h = absurd (omega arith)
front_begins (c ∷ word) (suc n) [] h = refl
front_begins (c ∷ word) (suc n) (first ∷ said) h = ap (λ (b : Bool). nat_eq c first && b) (front_begins word n said (omega arith))

-- a slice that holds the front
pub slice_names_language : {b : Bool} {slice front : List ℕ} (line : List ℕ) → b ≡ starts_with nat_eq slice (codes "@PJLENTERLANGUAGE=")
    → slice ≡ front → front ≡ take 22 (squeezed line) → b ≡ names_language line
slice_names_language line e s f = rw (e, s, f) (front_begins (codes "@PJLENTERLANGUAGE=") 22 (squeezed line) (omega arith))

pub slice_names_pcl : {b : Bool} {slice front : List ℕ} (line : List ℕ) → b ≡ bytes_eq slice (codes "@PJLENTERLANGUAGE=PCL") → slice ≡ front
    → front ≡ take 22 (squeezed line) → b ≡ names_pcl line
slice_names_pcl line e s f = rw (e, s, f) (front_is (codes "@PJLENTERLANGUAGE=PCL") 22 (squeezed line) (omega arith))
