-- The dots of rows, as tokens print them and as they are inked.
use Rattle.std.proofs.Common.{◌≡◌, ℕ, zero, suc, ◌+◌, ◌-◌, ◌*◌, ◌/◌, ◌%◌, ◌<◌, Bool, true, false, ◌&&◌, ◌||◌, ◌==◌, nat_le, nat_lt, List, [], ◌∷◌, take, drop, refl, sym, ap, ◌∙◌, inl, inr, arith, get_or}
use Rattle.pcl_meaning.proofs.Names.{and-false, or-false, cases_lt, nat_tests, get_or_past, drop-drop, bit_of_byte-zero, dot_of_row, raster_dot, IsWhite, AreWhite, dot_of_rows}
use Rattle.pcl_output.specs.PageText.{rows_from}

-- ---- dots of rows

-- the same for rows whose topmost one is row k
abbrev pub dot_from : ℕ → List (List ℕ) → ℕ → ℕ → Bool
dot_from k rows x y = nat_le k y && dot_of_rows rows x (y - k)

-- the topmost row, and the rows below it
pub first_row : (k : ℕ) (row : List ℕ) (rows : List (List ℕ)) (x y : ℕ)
    → dot_from k (row ∷ rows) x y ≡ ((k == y && dot_of_row row x) || dot_from (k + 1) rows x y)
first_row k row rows x y =
    elim (cases_lt y k) [
      | inl above ↦ grind (arith, nat_tests)
      | inr from ↦
          elim (cases_lt k y) [
            | inl below ↦ let place : y - k ≡ suc (y - (k + 1)) = omega arith in rw place (grind (arith, nat_tests))
            | inr same ↦ let place : y - k ≡ 0 = omega arith in rw place (grind (arith, nat_tests, or-false))
          ]
    ]

white_byte : (row : List ℕ) (i : ℕ) → IsWhite row → get_or row i 0 ≡ 0
white_byte [] i w = get_or_past [] i 0 (omega arith)
white_byte (byte ∷ row) zero w = w.0
white_byte (byte ∷ row) (suc i) w = white_byte row i w.1

pub white_dot : (row : List ℕ) (x : ℕ) → IsWhite row → dot_of_row row x ≡ false
white_dot row x w = rw (white_byte row (x / 8) w) (bit_of_byte-zero (x % 8))

white_dots : (rows : List (List ℕ)) (x y : ℕ) → AreWhite rows → dot_of_rows rows x y ≡ false
white_dots [] x y w = refl
white_dots (row ∷ rows) x zero w = white_dot row x w.0
white_dots (row ∷ rows) x (suc y) w = white_dots rows x y w.1

pub white_from : (k : ℕ) (rows : List (List ℕ)) (x y : ℕ) → AreWhite rows → dot_from k rows x y ≡ false
white_from k rows x y w = rw (white_dots rows x (y - k) w) (and-false (nat_le k y))

-- white rows at the top have no dots
pub skipped_dots : (count k : ℕ) (rows : List (List ℕ)) (x y : ℕ) → AreWhite (take count rows)
    → dot_from (k + count) (drop count rows) x y ≡ dot_from k rows x y
skipped_dots zero k rows x y w = let place : k + 0 ≡ k = omega arith in ap (λ (n : ℕ). dot_from n rows x y) place
skipped_dots (suc count) k [] x y w = and-false (nat_le (k + suc count) y) ∙ sym (and-false (nat_le k y))
skipped_dots (suc count) k (row ∷ rows) x y w =
    let place : k + suc count ≡ (k + 1) + count = omega arith in
    rw (place, first_row k row rows x y, white_dot row x w.0, and-false (k == y)) (skipped_dots count (k + 1) rows x y w.1)

-- what a row inks that is sent at the left edge, k rows below the top
pub row_inks : (k : ℕ) {width : ℕ} (bytes : List ℕ) {x : ℕ} (y : ℕ) → x < width
    → raster_dot 0 (0 + k * 1) 1 width bytes x y ≡ (k == y && dot_of_row bytes x)
row_inks k {width} bytes {x} y within =
    let at : (x - 0) / 1 ≡ x = omega arith in
    let wide : nat_lt x width ≡ true = grind (arith, nat_tests) in
    let left : nat_le 0 x ≡ true = grind (arith, nat_tests) in
    rw (left, at, wide) (grind (arith, nat_tests))

-- ---- the rows of a page

pub page_dot : (n width : ℕ) (bytes : List ℕ) (x y : ℕ) → y < n
    → dot_of_rows (rows_from n width bytes) x y ≡ dot_of_row (take width (drop (y * width) bytes)) x
unfolding rows_from
page_dot zero width bytes x y lt = absurd (omega arith)
page_dot (suc n) width bytes x zero lt = let start : 0 * width ≡ 0 = omega arith in rw start refl
page_dot (suc n) width bytes x (suc y) lt =
    let places : width + y * width ≡ suc y * width = grind arith in
    rw (← places, ← drop-drop (y * width) width bytes) (page_dot n width (drop width bytes) x y (omega arith))
