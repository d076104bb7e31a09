-- A number in decimal is spelled as the grammar wants it.
use Rattle.std.proofs.Common.{◌≡◌, ℕ, ◌+◌, ◌-◌, ◌*◌, ◌%◌, ◌^◌, ◌<◌, true, List, [], ◌∷◌, ◌++◌, fold, refl, arith}
use Rattle.pcl_output.proofs.Names.{decimal, decimal_by_steps, nat_tests, is_digit, AreDigits, IsSpelled}

digit_is : (n : ℕ) → n < 10 → is_digit (48 + n) ≡ true
digit_is n lt = grind (arith, nat_tests)

digits_push : (digits : List ℕ) (digit : ℕ) → AreDigits digits → is_digit digit ≡ true → AreDigits (digits ++ digit ∷ [])
digits_push [] digit d e = (e, tt)
digits_push (first ∷ digits) digit d e = (d.0, digits_push digits digit d.1 e)

number_after : (n : ℕ) (digits : List ℕ) (digit : ℕ) → fold (λ (m : ℕ) (d : ℕ). m * 10 + (d - 48)) n (digits ++ digit ∷ [])
    ≡ fold (λ (m : ℕ) (d : ℕ). m * 10 + (d - 48)) n digits * 10 + (digit - 48)
number_after n [] digit = refl
number_after n (first ∷ digits) digit = number_after (n * 10 + (first - 48)) digits digit

pub decimal_spelled : (n : ℕ) → n < 2 ^ 64 → IsSpelled (decimal n) n
decimal_spelled n lt =
    decimal_by_steps (λ (m : ℕ) (digits : List ℕ). IsSpelled digits m) (λ m small. ((digit_is m small, tt), omega arith))
    (λ m digits large spelled.
    let number = number_after 0 digits (48 + m % 10) in
    (digits_push digits (48 + m % 10) spelled.0 (digit_is (m % 10) (omega arith)), omega (arith, spelled.1))) n lt
