-- How many digits a number needs.
use Rattle.std.proofs.Common.{◌≡◌, ℕ, zero, suc, ◌+◌, ◌-◌, ◌*◌, ◌^◌, ◌<◌, ◌≤◌, List, [], ◌∷◌, length, fold, refl, arith, add-one}
use Rattle.pcl_output.proofs.Names.{decimal, nat_tests, decimal_by_steps, length-decimal-le, length-append, mul-le-mul_right, pow-succ', pow-le-pow_right, AreDigits, IsSpelled, least_spelling}
use Rattle.pcl_output.specs.Spelling.{digit_count}
use Rattle.pcl_output.proofs.Numbers.{decimal_spelled}

-- digits spell a number below the power of ten of their count
number_below : (digits : List ℕ) (n : ℕ) → AreDigits digits → fold (λ (m : ℕ) (d : ℕ). m * 10 + (d - 48)) n digits < (n + 1) * 10 ^ length
    digits
number_below [] n are = omega arith
number_below (d ∷ digits) n are =
    let below = number_below digits (n * 10 + (d - 48)) are.1 in
    let room : n * 10 + (d - 48) + 1 ≤ (n + 1) * 10 = grind (arith, nat_tests, are.0) in
    rw (pow-succ' 10 (length digits)) (grind (arith, below, mul-le-mul_right (10 ^ length digits) room))

-- a number is below the power of ten of its digits
pub count_below : (n : ℕ) → n < 2 ^ 64 → n < 10 ^ digit_count n
unfolding digit_count
count_below zero lt = omega arith
count_below (suc n) lt =
    decimal_by_steps (λ (m : ℕ) (digits : List ℕ). m < 10 ^ length digits)
    (λ m small. omega arith) (λ m digits large below. rw (length-append, add-one, pow-succ' 10 (length digits)) (omega arith)) (suc n) lt

pub count_le : (k n : ℕ) → n < 10 ^ k → n < 2 ^ 64 → digit_count n ≤ k
unfolding digit_count
count_le k zero below lt = omega arith
count_le zero (suc n) below lt = absurd (omega arith)
count_le (suc k) (suc n) below lt = length-decimal-le (suc k) (suc n) (omega arith) below lt

pub count_above : (k n : ℕ) → 10 ^ k ≤ n → n < 2 ^ 64 → k < digit_count n
count_above k n above lt = grind (arith, count_below n lt, λ (few : digit_count n ≤ k). pow-le-pow_right {n = 10} (omega arith) few)

-- a greater number needs no fewer digits
pub count_grows : (m n : ℕ) → m ≤ n → n < 2 ^ 64 → digit_count m ≤ digit_count n
count_grows m n le lt = count_le (digit_count n) m (omega (arith, count_below n lt)) (omega arith)

pub count_of_none : digit_count 0 ≡ 0
unfolding digit_count
count_of_none = refl

-- no spelling is shorter
pub spelled_long : (digits : List ℕ) {n : ℕ} → IsSpelled digits n → n < 2 ^ 64 → digit_count n ≤ length digits
spelled_long digits {n} s lt = count_le (length digits) n (omega (arith, number_below digits 0 s.0, s.1)) lt

pub least_spelled : (n : ℕ) → n < 2 ^ 64 → IsSpelled (least_spelling n) n
least_spelled zero lt = (tt, refl)
least_spelled (suc n) lt = decimal_spelled (suc n) lt

pub count_is : (k n : ℕ) → 10 ^ k ≤ n → n < 10 ^ (k + 1) → n < 2 ^ 64 → k + 1 ≡ digit_count n
count_is k n above below lt = omega (arith, count_above k n above lt, count_le (k + 1) n below lt)

pub count_of_some : (n : ℕ) → 1 ≤ n → digit_count n ≡ length (decimal n)
unfolding digit_count
count_of_some zero some = absurd (omega arith)
count_of_some (suc n) some = refl
