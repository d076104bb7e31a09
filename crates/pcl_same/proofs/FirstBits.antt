-- The first bit at which bytes differ.
use Rattle.std.proofs.Common.{◌≡◌, ◌≢◌, ℕ, suc, ◌+◌, ◌-◌, ◌*◌, ◌^◌, ◌<◌, ◌≤◌, refl, ap, ◌∙◌, inl, inr, arith}
use Rattle.pcl_same.proofs.Names.{bit_at, bit_xor, count_leading_zeros, cases_lt, nat_tests, xor_of_8, leading_top, bit_at_xor, bit_at-lt, bit_at-zero, bit_at_above, bit_at_cat_high, same_from_bits_below, IsFirstBit}

bits_same : (a b i : ℕ) → bit_at (bit_xor a b) i ≡ 0 → bit_at a i ≡ bit_at b i
bits_same a b i e = omega (arith, bit_at_xor a b i, bit_at-lt a i, bit_at-lt b i)

-- bytes that differ have a bit that does
some_bit : (a b : ℕ) → a < 256 → b < 256 → a ≢ b → 0 < bit_xor a b
some_bit a b p q differ =
    elim (cases_lt 0 (bit_xor a b)) [
      | inl some ↦ some
      | inr none ↦
          let zero_is : bit_xor a b ≡ 0 = omega arith in
          absurd (differ (same_from_bits_below 8 a b p q (λ i small. bits_same a b i (rw zero_is (bit_at-zero i)))))
    ]

-- the highest bit of a number
top_bit : (n j : ℕ) → 2 ^ j ≤ n → n < 2 ^ suc j → bit_at n j ≡ 1
top_bit n j low high =
    let rest : n ≡ 1 * 2 ^ j + (n - 2 ^ j) = omega arith in
    let place : j - j ≡ 0 = omega arith in
    ap (λ m. bit_at m j) rest ∙ bit_at_cat_high 1 j (n - 2 ^ j) j (omega arith) (omega arith) ∙ ap (bit_at 1) place

pub first_bit_is : (a b : ℕ) → a < 256 → b < 256 → a ≢ b → IsFirstBit a b (count_leading_zeros 8 (bit_xor a b))
first_bit_is a b p q differ =
    let k : ℕ = count_leading_zeros 8 (bit_xor a b) in
    let top = leading_top 8 (bit_xor a b) (some_bit a b p q differ) (xor_of_8 a b p q) in
    let j : ℕ = top.0 in
    let at : 7 - k ≡ j = omega (arith, top.1) in
    let here : bit_at (bit_xor a b) (7 - k) ≡ 1 = ap (bit_at (bit_xor a b)) at ∙ top_bit (bit_xor a b) j top.2 top.3 in
    record {
      within = omega (arith, top.1);
      differs = λ same. grind (arith, nat_tests, here, bit_at_xor a b (7 - k), bit_at-lt a (7 - k), bit_at-lt b (7 - k));
      same = λ i before. rw (bits_same a b (7 - i) (bit_at_above (bit_xor a b) (suc j) (7 - i) top.3 (omega (arith, top.1)))) refl;
    }
