-- Lanes of bytes, and places where rows change.
use Rattle.std.proofs.Common.{◌≡◌, ◌≢◌, ℕ, ◌+◌, ◌-◌, ◌<◌, ◌≤◌, ◌^◌, ◌%◌, min, Bool, false, not, cond, eqb, map, List, length, get_or, sym, ap, ◌∙◌, inl, inr, arith, w8, w64}
use Rattle.pcl_bitmap.proofs.Names.{bit_at, trailing_zeros, zip2, mask_l, top, length-zip2, get_or-zip2, bit_mask_l, tops_compared, mask_l-mod, cases_lt, nat_tests, bit_at-zero, bit_at-trailing_zeros}

-- the place of the lowest bit that is set, or 32
pub record IsFirstSet (mask count : ℕ) : Type 0 where
  pub clear : (k : ℕ) → k < count → bit_at mask k ≡ 0
  pub set : count < 32 → bit_at mask count ≡ 1

pub first_set_is : {mask count : ℕ} → mask < 2 ^ 64 → count ≡ min (trailing_zeros w64 mask) 32 → IsFirstSet mask count
unfolding lib.Count.count_trailing_zeros
first_set_is {mask} {count} fits is =
    elim (cases_lt 0 mask) [
      | inl some ↦
          let h = bit_at-trailing_zeros w64 mask some fits in
          record {
            clear = λ k below. h.2 k (omega arith);
            set = λ below. let at : count ≡ trailing_zeros w64 mask = omega arith in rw at h.1;
          }
      | inr none ↦
          let zero : mask ≡ 0 = omega arith in
          let all : count ≡ 32 = is ∙ ap (λ (m : ℕ). min (trailing_zeros w64 m) 32) zero in
          record { clear = λ k below. rw zero (bit_at-zero k); set = λ below. absurd (omega arith) }
    ]

-- whether two lanes differ
abbrev pub differ : ℕ → ℕ → Bool
differ x y = not (eqb x y)

-- a bit of the mask of a comparison
lane_bit : (a b : List ℕ) (k : ℕ) → length a ≡ 32 → length b ≡ 32 → k < 32
    → bit_at (mask_l (zip2 differ a b)) k ≡ cond (differ (get_or a k 0) (get_or b k 0)) 1 0
lane_bit a b k size size' within =
    bit_mask_l (zip2 differ a b) k ∙ ap (λ (t : Bool). cond t 1 0) (get_or-zip2 differ a b k 0 0 false (omega arith) (omega arith))

-- what a mask's first bit says of the lanes
pub lanes_same : (a b : List ℕ) {k : ℕ} → length a ≡ 32 → length b ≡ 32 → k < 32 → bit_at (mask_l (zip2 differ a b)) k ≡ 0
    → get_or a k 0 ≡ get_or b k 0
lanes_same a b {k} size size' within clear = grind (arith, nat_tests, lane_bit a b k size size' within)

pub lanes_differ : (a b : List ℕ) {k : ℕ} → length a ≡ 32 → length b ≡ 32 → k < 32 → bit_at (mask_l (zip2 differ a b)) k ≡ 1
    → get_or a k 0 ≢ get_or b k 0
lanes_differ a b {k} size size' within set = grind (arith, nat_tests, lane_bit a b k size size' within)

-- the mask as the code computes it
pub whole_mask : (a b : List ℕ) → length a ≡ 32 → length b ≡ 32
    → mask_l (map (top 7) (zip2 (λ x y. cond (differ x y) 255 0) a b)) % 2 ^ 64 ≡ mask_l (zip2 differ a b)
whole_mask a b size size' =
    ap (λ (ms : List Bool). mask_l ms % 2 ^ 64) (tops_compared w8 differ a b)
    ∙ mask_l-mod (zip2 differ a b) 64 (omega (arith, length-zip2 differ a b (size ∙ sym size')))

-- ---- rows, as far as they are known

-- two rows are the same up to a place
pub record AreSameTo (a b : List ℕ) (place : ℕ) : Type 0 where
  pub within : place ≤ length a
  pub same : (k : ℕ) → k < place → get_or a k 0 ≡ get_or b k 0

pub same_more : {a b : List ℕ} {place count : ℕ} → AreSameTo a b place → place + count ≤ length a
    → ((k : ℕ) → k < count → get_or a (place + k) 0 ≡ get_or b (place + k) 0) → AreSameTo a b (place + count)
same_more {a} {b} {place} to fits more = record { within = fits; same = λ k below. grind (arith, to.same k, more (k - place)) }

-- a byte stands again and again from one place up to another
pub record IsRunTo (row : List ℕ) (from place : ℕ) : Type 0 where
  pub after : from < place
  pub within : place ≤ length row
  pub same : (k : ℕ) → from ≤ k → k < place → get_or row k 0 ≡ get_or row from 0

pub run_more : {row : List ℕ} {from place count : ℕ} → IsRunTo row from place → place + count ≤ length row
    → ((k : ℕ) → k < count → get_or row (place + k) 0 ≡ get_or row from 0) → IsRunTo row from (place + count)
run_more {row} {from} {place} {count} to fits more =
    record { after = omega (arith, to.after); within = fits; same = λ k low high. grind (arith, to.same k, more (k - place)) }

-- there are only zeros from a place on
pub record AreZerosFrom (row : List ℕ) (len : ℕ) : Type 0 where
  pub within : len ≤ length row
  pub zeros : (k : ℕ) → len ≤ k → get_or row k 0 ≡ 0

pub zeros_more : {row : List ℕ} {len count : ℕ} → AreZerosFrom row len → count ≤ len
    → ((k : ℕ) → k < count → get_or row (len - count + k) 0 ≡ 0) → AreZerosFrom row (len - count)
zeros_more {row} {len} {count} from fits more =
    record { within = omega (arith, from.within); zeros = λ k low. grind (arith, from.zeros k, more (k - (len - count))) }
