-- Black dots of a row are those of its bytes.
use Rattle.std.proofs.Common.{◌≡◌, ℕ, suc, zero, ◌+◌, ◌-◌, ◌*◌, ◌/◌, ◌%◌, ◌^◌, ◌==◌, ◌≤◌, if◌then◌else◌, Bool, true, false, List, [], refl, ap, sym, ◌∙◌, arith, add-one, suc-mul}
use Rattle.std.specs.Int.Count.{ones}
use Rattle.pcl_preview.proofs.Names.{drop_of_length-le, field_of, mod-pow-add, mul-le, nat_tests, one_shl, ones_step, shr-shr, take-nil, zero-div, slice_index, page_height, page_row_bytes, IsPicture, Picture, bit_of_byte, dot_of_row, row_of}
use Rattle.pcl_preview.specs.Greymap.{black_in_row, black_in}
use Rattle.pcl_preview.specs.inner.Counting.{black_in_byte}

-- ---- one byte

-- a number's lowest bit, and its others
lowest : (a n : ℕ) → ones (a % 2 ^ suc n) ≡ ones (a / 2 % 2 ^ n) + a % 2
lowest a n =
    let others : ℕ = a / 2 % 2 ^ n in
    let whole : a % 2 ^ suc n ≡ others * 2 + a % 2 = ap (λ k. a % 2 ^ k) (sym (add-one n)) ∙ mod-pow-add a n 1 in
    let half : (others * 2 + a % 2) / 2 ≡ others = omega arith in
    let odd : (others * 2 + a % 2) % 2 ≡ a % 2 = omega arith in
    let step = ones_step (others * 2 + a % 2) in
    let swapped : a % 2 + ones others ≡ ones others + a % 2 = omega arith in
    ap ones whole ∙ step ∙ ap (λ x. x + ones ((others * 2 + a % 2) / 2)) odd ∙ ap (λ x. a % 2 + ones x) half ∙ swapped

one_bit : (n : ℕ) → n % 2 ≡ (if n % 2 == 1 then 1 else 0)
one_bit n = grind (arith, nat_tests)

bit_is : (byte k m : ℕ) → k + m ≡ 7 → byte / 2 ^ m % 2 ≡ (if bit_of_byte byte k then 1 else 0)
bit_is byte k m h = let place : 7 - k ≡ m = omega (arith, h) in rw place (one_bit (byte / 2 ^ m))

counted : (byte skip n m : ℕ) → skip + n + m ≡ 8 → ones (byte / 2 ^ m % 2 ^ n) ≡ black_in_byte byte skip n
unfolding black_in_byte ones
counted byte skip zero m h = let none : byte / 2 ^ m % 1 ≡ 0 = omega arith in ap ones none
counted byte skip (suc n) m h =
    lowest (byte / 2 ^ m) n
    ∙ ap (λ x. ones (x % 2 ^ n) + byte / 2 ^ m % 2) (shr-shr byte m 1 ∙ ap (λ k. byte / 2 ^ k) (add-one m))
    ∙ ap (λ x. x + byte / 2 ^ m % 2) (counted byte skip n (suc m) (omega (arith, h)))
    ∙ ap (λ x. black_in_byte byte skip n + x) (bit_is byte (skip + n) m (omega (arith, h)))

-- the bits of a byte after some, moved to its end
pub set_bits : (byte skip n : ℕ) → skip + n ≤ 8
    → ones (byte % (1 * 2 ^ (8 - skip) % 4294967296) / 2 ^ (8 - skip - n)) ≡ black_in_byte byte skip n
set_bits byte skip n h =
    let m : ℕ = 8 - skip - n in
    let all : 8 - skip ≡ n + m = omega (arith, h) in
    let mask : 1 * 2 ^ (8 - skip) % 4294967296 ≡ 2 ^ (n + m) = one_shl (8 - skip) 32 (omega arith) ∙ ap (λ k. 2 ^ k) all in
    ap (λ d. ones (byte % d / 2 ^ m)) mask ∙ ap ones (field_of byte n m) ∙ counted byte skip n m (omega (arith, h))

at_most_one : (bit : Bool) → (if bit then 1 else 0) ≤ 1
at_most_one true = omega arith
at_most_one false = omega arith

pub few_bits : (byte skip n : ℕ) → black_in_byte byte skip n ≤ n
unfolding black_in_byte
few_bits byte skip zero = omega arith
few_bits byte skip (suc n) = omega (arith, few_bits byte skip n, at_most_one (bit_of_byte byte (skip + n)))

-- ---- one row

regrouped : (a b c : ℕ) → a + b + c ≡ a + (b + c)
regrouped a b c = omega arith

row_split : (row : List ℕ) (x n m : ℕ) → black_in_row row x (n + m) ≡ black_in_row row x n + black_in_row row (x + n) m
unfolding black_in_row
row_split row x n zero = grind arith
row_split row x n (suc m) =
    let next : n + suc m ≡ suc (n + m) = omega arith in
    let place : x + (n + m) ≡ x + n + m = omega arith in
    rw (next, row_split row x n m, place) (regrouped (black_in_row row x n) (black_in_row row (x + n) m) _)

row_of_byte : (row : List ℕ) (x n : ℕ) → x % 8 + n ≤ 8 → black_in_row row x n ≡ black_in_byte (slice_index row (x / 8)) (x % 8) n
unfolding black_in_row black_in_byte
row_of_byte row x zero h = refl
row_of_byte row x (suc n) h =
    let rest = row_of_byte row x n (omega (arith, h)) in
    let byte : (x + n) / 8 ≡ x / 8 = omega (arith, h) in
    let bit : (x + n) % 8 ≡ x % 8 + n = omega (arith, h) in
    rw (rest, byte, bit) refl

-- those up to one dot, and those up to another one in the same byte
pub byte_more : (row : List ℕ) (x from to black bits byte : ℕ) → x ≤ from → from ≤ to → from % 8 + (to - from) ≤ 8
    → black ≡ black_in_row row x (from - x) → byte ≡ slice_index row (from / 8) → bits ≡ black_in_byte byte (from % 8) (to - from)
    → black + bits ≡ black_in_row row x (to - x)
byte_more row x from to black bits byte before after within black_is byte_is bits_are =
    let split = row_split row x (from - x) (to - from) in
    let all : from - x + (to - from) ≡ to - x = omega (arith, before, after) in
    let next : x + (from - x) ≡ from = omega (arith, before) in
    let dots = row_of_byte row from (to - from) within in
    cc

pub none_yet : (row : List ℕ) (x : ℕ) → 0 ≡ black_in_row row x (x - x)
unfolding black_in_row
none_yet row x = let none : x - x ≡ 0 = omega arith in rw none refl

pub few_dots : (row : List ℕ) (x n : ℕ) → black_in_row row x n ≤ n
unfolding black_in_row
few_dots row x zero = omega arith
few_dots row x (suc n) = omega (arith, few_dots row x n, at_most_one (dot_of_row row (x + n)))

white_dot : (x : ℕ) → dot_of_row [] x ≡ false
white_dot x = rw (zero-div (2 ^ (7 - x % 8))) refl

pub white_row : (x n : ℕ) → black_in_row [] x n ≡ 0
unfolding black_in_row
white_row x zero = refl
white_row x (suc n) = rw (white_row x n, white_dot (x + n)) refl

-- ---- rows

-- below the page there is no black dot
pub white_below : (picture : Picture) (y x n : ℕ) → IsPicture picture → page_height picture.size picture.dpi ≤ y
    → 0 ≡ black_in_row (row_of picture y) x n
white_below picture y x n is_picture below =
    let row : ℕ = page_row_bytes picture.size picture.dpi in
    let above = mul-le (page_height picture.size picture.dpi) row y row below (omega arith) in
    let past = drop_of_length-le picture.bytes {i = y * row} (omega (arith, is_picture.whole, above)) in
    rw (past, take-nil) (sym (white_row x n))

pub none_above : (picture : Picture) (x y width : ℕ) → 0 ≡ black_in picture x y width 0
unfolding black_in
none_above picture x y width = refl

pub row_more : (picture : Picture) (x y width n black more : ℕ) → black ≡ black_in picture x y width n
    → more ≡ black_in_row (row_of picture (y + n)) x width → black + more ≡ black_in picture x y width (n + 1)
unfolding black_in
row_more picture x y width n black more black_is more_is = rw (add-one n, black_is, more_is) refl

pub few_rows : (picture : Picture) (x y width n : ℕ) → black_in picture x y width n ≤ n * width
unfolding black_in
few_rows picture x y width zero = omega arith
few_rows picture x y width (suc n) =
    omega (arith, suc-mul n width, few_rows picture x y width n, few_dots (row_of picture (y + n)) x width)
