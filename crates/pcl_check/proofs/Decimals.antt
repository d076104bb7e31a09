-- Numbers at the front of a text.
use Rattle.std.proofs.Common.{◌≡◌, ℕ, ◌≤◌, false, List, [], ◌∷◌, ◌++◌, length, take, drop, sym, ap, ◌∙◌, arith}
use Rattle.pcl_check.proofs.Names.{decimal, prefix_len, append-nil, nil_from_length, is_digit, number_of, AreDigits, front_split, IsSpelled, decimal_spelled, Parameter, IsParameter}
use Rattle.pcl_check.proofs.Splits.{one_split}

-- nothing is after the digits
pub all_digits : (text : List ℕ) {after : List ℕ} → after ≡ drop (prefix_len is_digit text) text → length after ≡ 0 → AreDigits text
all_digits text {after} e none =
    let no_more : drop (prefix_len is_digit text) text ≡ [] = sym e ∙ nil_from_length after none in
    let front = front_split is_digit text in
    let all = append-nil (take (prefix_len is_digit text) text) in
    let whole : text ≡ take (prefix_len is_digit text) text = cc in rw whole front.pass

-- ---- decimals

decimal_is : {n : ℕ} → n ≤ 65536 → IsSpelled (decimal n) n
decimal_is {n} le = decimal_spelled n (omega arith)

-- decimals with the same byte after them
pub same_front : {m n : ℕ} (byte : ℕ) {x y : List ℕ} → m ≤ 65536 → n ≤ 65536 → is_digit byte ≡ false
    → decimal m ++ byte ∷ x ≡ decimal n ++ byte ∷ y → (m ≡ n) × (x ≡ y)
same_front {m} {n} byte a b off e =
    let parts = one_split is_digit (decimal m) (decimal n) (decimal_is a).0 (decimal_is b).0 off off e in
    (sym (decimal_is a).1 ∙ ap number_of parts.0 ∙ (decimal_is b).1, parts.2)

-- a number that is spelled as a decimal is one without leading zeros
pub record IsDecimal (found : Parameter) (byte n : ℕ) : Type 0 where
  pub digits : decimal found.number ≡ found.digits.now
  pub letter : found.letter ≡ byte

pub decimal_found : {text : List ℕ} {found : Parameter} {byte n : ℕ} (rest : List ℕ) → IsParameter text found → is_digit byte ≡ false
    → n ≤ 65535 → text ≡ decimal n ++ byte ∷ rest → IsDecimal found byte n
decimal_found {found} {n} rest is off le e =
    let few : n ≤ 65536 = omega arith in
    let parts = one_split is_digit found.digits.now (decimal n) is.are_digits (decimal_is few).0 is.no_digit off (sym is.spelled ∙ e) in
    let same : found.number ≡ n = omega (arith, is.number_is, ap number_of parts.0, (decimal_is few).1) in
    record { digits = ap decimal same ∙ sym parts.0; letter = parts.1 }
