-- From what is left before a token to what is left after it.
use Rattle.std.proofs.Common.{◌≡◌, ◌≢◌, ℕ, zero, suc, ◌-◌, ◌<◌, ◌≤◌, Bool, true, false, List, [], ◌∷◌, ◌++◌, length, replicate, Some, refl, sym, ap, ◌∙◌, append_assoc, arith, le_refl}
use Rattle.pcl_check.proofs.Names.{not, flat_map, AllByRecursion, length-append, length-replicate, take_at, drop_at, take_all, drop_all, append-nil, zero-div, same_fronts, white_byte, Dpi, Method, Size, method_code, method_with_code, page_row_bytes, is_digit, number_of, AreDigits, IsRowData, Token, method, skip, send, token_bytes, IsWhite, AreWhite, end_bytes, IsRowOf, LeftOver, RestPrints, GivesRows, nat_tests}
use Rattle.pcl_output.specs.Tokens.{PrintsRows}
use Rattle.pcl_check.proofs.Splits.{no_split}
use Rattle.pcl_check.proofs.Fronts.{letter_code, letter_is, left_over, white_rows, white_front, Told, front_at, is_method, is_skip, is_send, no_digit}

-- ---- letters and methods

pub same_case : (capital : ℕ) (a b : Bool) → letter_code capital a ≡ letter_code capital b → a ≡ b
same_case capital a b e = grind arith

pub with_code : (m : Method) → method_with_code (method_code m) ≡ Some m
with_code m = grind (arith, nat_tests)

pub same_method : {a b : Method} → method_code a ≡ method_code b → a ≡ b
same_method {a} {b} e = let s : Some a ≡ Some b = sym (with_code a) ∙ ap method_with_code e ∙ with_code b in cc

-- ---- white rows

copies_all : {A : Type 0} (P : A → Type 0) {x : A} (count : ℕ) → P x → AllByRecursion P (replicate count x)
copies_all P zero is = tt
copies_all P (suc count) is = (is, copies_all P count is)

pub rows_white : (size : Size) (dpi : Dpi) (count : ℕ) → AreWhite (white_rows size dpi count)
rows_white size dpi count = copies_all IsWhite count (copies_all (λ byte. byte ≡ 0) (page_row_bytes size dpi) refl)

pub white_before : (size : Size) (dpi : Dpi) (count : ℕ) (rows : List (List ℕ)) → AllByRecursion (IsRowOf size dpi) rows
    → AllByRecursion (IsRowOf size dpi) (white_rows size dpi count ++ rows)
white_before size dpi zero rows are = are
white_before size dpi (suc count) rows are =
    ((length-replicate (page_row_bytes size dpi) 0, λ x past. simp (white_byte, zero-div)), white_before size dpi count rows are)

-- white rows of a size are all alike
pub all_white : (size : Size) (dpi : Dpi) (rows : List (List ℕ)) → AllByRecursion (IsRowOf size dpi) rows → AreWhite rows
    → rows ≡ white_rows size dpi (length rows)
all_white size dpi rows are white =
    simp (drop_all, append-nil, le_refl) at (white_front size dpi (length rows) rows are (omega arith) (simp (take_all, le_refl) white))

-- ---- what a token leaves

module _ {size : Size} {dpi : Dpi} {left : LeftOver} {digits rest : List ℕ} {byte : ℕ} (told : Told left digits byte rest) where
  pub method_becomes : {next : Method} (ends : Bool) → byte ≡ letter_code 77 ends → number_of digits ≡ method_code next
      → GivesRows size dpi left [] (left_over (not ends) next left.above left.rows rest)
  unfolding PrintsRows
  method_becomes {next} ends b n = record {
    splits = λ rows printed. elim (front_at told printed) [
      | is_method other last c m p ↦ (rows, refl, rw (sym (same_method (sym m ∙ n)), sym (same_case 77 last ends (sym c ∙ b))) p)
      | is_skip last others c some few r p ↦ absurd (grind arith)
      | is_send bytes more first others c m r some f row row_data p ↦ absurd (grind arith)
    ];
    joins = λ rows printed. record {
      count = printed.count;
      rows_are = printed.rows_are;
      tokens = method digits next ends ∷ printed.tokens;
      spelled = simp (told.text, b, printed.spelled, letter_is, append_assoc);
      prints = rw told.inside ((told.are_digits, n), printed.prints);
    };
  }

  -- rows that are skipped
  pub skip_becomes : (ends : Bool) → byte ≡ letter_code 89 ends → 0 < number_of digits → number_of digits ≤ left.rows
      → GivesRows size dpi left (white_rows size dpi (number_of digits))
      (left_over (not ends) left.method (replicate (length left.above) 0) (left.rows - number_of digits) rest)
  unfolding PrintsRows
  skip_becomes ends b some few = record {
    splits = λ rows printed. elim (front_at told printed) [
      | is_method other last c m p ↦ absurd (grind arith)
      | is_skip last others c positive within r p ↦ (others, r, rw (sym (same_case 89 last ends (sym c ∙ b))) p)
      | is_send bytes more first others c m r positive f row row_data p ↦ absurd (grind arith)
    ];
    joins = λ rows printed.
        let count = number_of digits in
        let white = white_rows size dpi count in
        let many : length white ≡ count = length-replicate count (replicate (page_row_bytes size dpi) 0) in
        let all : length (white ++ rows) ≡ left.rows = omega (arith, length-append white rows, many, printed.count) in
        record {
          count = all;
          rows_are = white_before size dpi count rows printed.rows_are;
          tokens = skip digits count ends ∷ printed.tokens;
          spelled = simp (told.text, b, printed.spelled, letter_is, append_assoc);
          prints = rw (told.inside, take_at white rows count many, drop_at white rows count many)
              ((told.are_digits, refl), some, omega (arith, all), rows_white size dpi count, printed.prints);
        };
  }

  -- a row that is sent
  pub send_becomes : {bytes more first : List ℕ} → byte ≡ 87 → number_of digits ≡ length bytes → rest ≡ bytes ++ more → 0 < left.rows
      → IsRowOf size dpi first → IsRowData left.method left.above first bytes
      → GivesRows size dpi left (first ∷ []) (left_over false left.method first (left.rows - 1) more)
  unfolding PrintsRows
  send_becomes {bytes} {more} {first} b n parts some is_row is_data = record {
    splits = λ rows printed. elim (front_at told printed) [
      | is_method other last c m p ↦ absurd (grind arith)
      | is_skip last others c positive within r p ↦ absurd (grind arith)
      | is_send sent after painted others c m r positive f row row_data p ↦
          let same = same_fronts sent bytes (sym m ∙ n) (sym r ∙ parts) in
          let one = row_data.decodes in
          let other = is_data.decodes in
          let same_row : painted ≡ first = cc in (others, cc, rw (sym same.1, sym same_row) p)
    ];
    joins = λ rows printed. record {
      count = omega (arith, printed.count);
      rows_are = (is_row, printed.rows_are);
      tokens = send digits bytes ∷ printed.tokens;
      spelled = simp (told.text, b, parts, printed.spelled, append_assoc);
      prints = rw told.inside ((told.are_digits, n), is_data, printed.prints);
    };
  }

  -- what is sent isn't there, or paints no row of the size
  pub no_send : {rows : List (List ℕ)} → byte ≡ 87
      → ((bytes more first : List ℕ) → number_of digits ≡ length bytes → rest ≡ bytes ++ more → 0 < left.rows → IsRowOf size dpi first
      → IsRowData left.method left.above first bytes → ⊥) → RestPrints size dpi left rows → ⊥
  no_send b none printed = elim (front_at told printed) [
    | is_method other last c m p ↦ grind arith
    | is_skip last others c some few r p ↦ grind arith
    | is_send bytes more first others c m r some f row row_data p ↦ none bytes more first m r some row row_data
  ]

  -- no letter of the grammar
  pub no_letter : {rows : List (List ℕ)} → byte ≢ 77 → byte ≢ 109 → byte ≢ 89 → byte ≢ 121 → byte ≢ 87 → RestPrints size dpi left rows → ⊥
  no_letter no_switch no_last_switch no_skip no_last_skip no_sent printed = elim (front_at told printed) [
    | is_method other ends c n p ↦ grind (arith, no_switch, no_last_switch)
    | is_skip ends others c some few r p ↦ grind (arith, no_skip, no_last_skip)
    | is_send bytes more first others c n r some f row row_data p ↦ no_sent c
  ]

-- only digits are left inside a sequence
digits_only : (current : Method) (above : List ℕ) {text : List ℕ} → AreDigits text → (tokens : List Token) (rows : List (List ℕ))
    → text ≡ flat_map token_bytes tokens ++ end_bytes → PrintsRows true current above tokens rows → ⊥
unfolding PrintsRows
digits_only current above {text} are (method spelled next ends ∷ tokens) rows e p =
    no_split is_digit text spelled _ are (no_digit 77 ends (omega arith)) (simp (letter_is, append_assoc) at e)
digits_only current above {text} are (skip spelled count ends ∷ tokens) rows e p =
    no_split is_digit text spelled _ are (no_digit 89 ends (omega arith)) (simp (letter_is, append_assoc) at e)
digits_only current above {text} are (send spelled bytes ∷ tokens) rows e p =
    no_split is_digit text spelled _ are refl (simp append_assoc at e)
digits_only current above are tokens rows e p = p

pub no_byte : {size : Size} {dpi : Dpi} {left : LeftOver} {rows : List (List ℕ)} → left.inside ≡ true → AreDigits left.text
    → RestPrints size dpi left rows → ⊥
no_byte {left} {rows} inside are printed =
    digits_only left.method left.above are printed.tokens rows printed.spelled (rw inside at printed.prints)
