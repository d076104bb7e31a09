-- The token at the front of what is left inside a sequence.
use Rattle.std.proofs.Common.{◌≡◌, ℕ, zero, suc, ◌+◌, ◌-◌, ◌<◌, ◌≤◌, Bool, true, false, List, [], ◌∷◌, ◌++◌, length, take, drop, replicate, refl, sym, ap, ◌∙◌, append_assoc, arith}
use Rattle.pcl_check.proofs.Names.{not, flat_map, AllByRecursion, nat_tests, length-drop, Dpi, Method, Size, method_code, page_row_bytes, is_digit, number_of, AreDigits, IsRowData, Token, method, skip, send, letter, token_bytes, AreWhite, end_bytes, IsRowOf, white_is_zeros, LeftOver, RestPrints}
use Rattle.pcl_output.specs.Tokens.{PrintsRows}
use Rattle.pcl_check.proofs.Splits.{one_split}

-- a letter as a number: a capital where it ends the sequence
abbrev pub letter_code : ℕ → Bool → ℕ
letter_code capital true = capital
letter_code capital false = capital + 32

pub letter_is : (capital : ℕ) (ends : Bool) → letter capital ends ≡ letter_code capital ends ∷ []
letter_is capital ends = grind arith

abbrev pub left_over : Bool → Method → List ℕ → ℕ → List ℕ → LeftOver
left_over inside current above rows text = record { inside = inside; method = current; above = above; rows = rows; text = text }

-- this many white rows of a size
abbrev pub white_rows : Size → Dpi → ℕ → List (List ℕ)
white_rows size dpi count = replicate count (replicate (page_row_bytes size dpi) 0)

-- what a number and the byte after it say, inside a sequence
pub data Foremost (size : Size) (dpi : Dpi) (current : Method) (above : List ℕ) (left number byte : ℕ) (rest : List ℕ)
    (rows : List (List ℕ)) : Type 0 where
  is_method : (next : Method) (ends : Bool) → byte ≡ letter_code 77 ends → number ≡ method_code next
      → RestPrints size dpi (left_over (not ends) next above left rest) rows → Foremost size dpi current above left number byte rest rows
  is_skip : (ends : Bool) (others : List (List ℕ)) → byte ≡ letter_code 89 ends → 0 < number → number ≤ left
      → rows ≡ white_rows size dpi number ++ others
      → RestPrints size dpi (left_over (not ends) current (replicate (length above) 0) (left - number) rest) others
      → Foremost size dpi current above left number byte rest rows
  is_send : (bytes more first : List ℕ) (others : List (List ℕ)) → byte ≡ 87 → number ≡ length bytes → rest ≡ bytes ++ more → 0 < left
      → rows ≡ first ∷ others → IsRowOf size dpi first → IsRowData current above first bytes
      → RestPrints size dpi (left_over false current first (left - 1) more) others
      → Foremost size dpi current above left number byte rest rows

pub no_digit : (capital : ℕ) (ends : Bool) → 57 < capital → is_digit (letter_code capital ends) ≡ false
no_digit capital ends after = grind (arith, nat_tests)

pub all_drop : (size : Size) (dpi : Dpi) (count : ℕ) (rows : List (List ℕ)) → AllByRecursion (IsRowOf size dpi) rows
    → AllByRecursion (IsRowOf size dpi) (drop count rows)
all_drop size dpi zero rows are = are
all_drop size dpi (suc count) [] are = tt
all_drop size dpi (suc count) (row ∷ rows) are = all_drop size dpi count rows are.1

-- white rows are zeros
pub white_front : (size : Size) (dpi : Dpi) (count : ℕ) (rows : List (List ℕ)) → AllByRecursion (IsRowOf size dpi) rows
    → count ≤ length rows → AreWhite (take count rows) → rows ≡ white_rows size dpi count ++ drop count rows
white_front size dpi zero rows are le white = refl
white_front size dpi (suc count) [] are le white = absurd (omega arith)
white_front size dpi (suc count) (row ∷ rows) are le white =
    let first : row ≡ replicate (page_row_bytes size dpi) 0 = white_is_zeros row white.0 ∙ ap (λ (n : ℕ). replicate n 0) are.0.0 in
    let rest = white_front size dpi count rows are.1 (omega arith) white.1 in cc

-- digits and another byte at the front of what is left, inside a sequence
pub record Told (left : LeftOver) (digits : List ℕ) (byte : ℕ) (rest : List ℕ) : Type 0 where
  pub inside : left.inside ≡ true
  pub are_digits : AreDigits digits
  pub no_digit : is_digit byte ≡ false
  pub text : left.text ≡ digits ++ byte ∷ rest

-- what is at the front, by the tokens
front_by : {size : Size} {dpi : Dpi} {current : Method} {above : List ℕ} {left : ℕ} (digits : List ℕ) {byte : ℕ} {rest : List ℕ}
    → AreDigits digits → is_digit byte ≡ false → (tokens : List Token) (rows : List (List ℕ))
    → digits ++ byte ∷ rest ≡ flat_map token_bytes tokens ++ end_bytes → length rows ≡ left → AllByRecursion (IsRowOf size dpi) rows
    → PrintsRows true current above tokens rows → Foremost size dpi current above left (number_of digits) byte rest rows
unfolding PrintsRows
front_by digits are off (method spelled next ends ∷ tokens) rows e n all p =
    let same = one_split is_digit digits spelled are p.0.0 off (no_digit 77 ends (omega arith)) (simp (letter_is, append_assoc) at e) in
    is_method next ends same.1 (ap number_of same.0 ∙ p.0.1)
    (record { count = n; rows_are = all; tokens = tokens; spelled = same.2; prints = p.1 })
front_by {size} {dpi} digits are off (skip spelled count ends ∷ tokens) rows e n all p =
    let same = one_split is_digit digits spelled are p.0.0 off (no_digit 89 ends (omega arith)) (simp (letter_is, append_assoc) at e) in
    let number : number_of digits ≡ count = ap number_of same.0 ∙ p.0.1 in
    rw number
    (is_skip ends (drop count rows) same.1 p.1 (omega (arith, p.2)) (white_front size dpi count rows all p.2 p.3)
    (record {
      count = omega (arith, length-drop count rows, p.2);
      rows_are = all_drop size dpi count rows all;
      tokens = tokens;
      spelled = same.2;
      prints = p.4;
    }))
front_by digits are off (send spelled bytes ∷ tokens) (first ∷ rows) e n all p =
    let same = one_split is_digit digits spelled are p.0.0 off refl (simp append_assoc at e) in
    is_send bytes (flat_map token_bytes tokens ++ end_bytes) first rows same.1 (ap number_of same.0 ∙ p.0.1) same.2 (omega arith) refl
    all.0 p.1 (record { count = omega arith; rows_are = all.1; tokens = tokens; spelled = refl; prints = p.2 })
front_by digits are off tokens rows e n all p = absurd p

pub front_at : {size : Size} {dpi : Dpi} {left : LeftOver} {digits : List ℕ} {byte : ℕ} {rest : List ℕ} {rows : List (List ℕ)}
    → Told left digits byte rest → RestPrints size dpi left rows
    → Foremost size dpi left.method left.above left.rows (number_of digits) byte rest rows
front_at {digits} {rows} told printed =
    front_by digits told.are_digits told.no_digit printed.tokens rows (sym told.text ∙ printed.spelled)
    printed.count printed.rows_are (rw told.inside at printed.prints)
