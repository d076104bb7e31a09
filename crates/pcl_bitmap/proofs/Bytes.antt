-- One bit of a byte that `|`, `&` and shifts make, and the bits of a byte within its list.
use Rattle.std.proofs.Common.{◌≡◌, ℕ, ◌+◌, ◌-◌, ◌*◌, ◌/◌, ◌%◌, ◌^◌, ◌<◌, ◌≤◌, nat_le, nat_lt, nat_eq, Bool, true, false, ◌&&◌, ◌||◌, if◌then◌else◌, List, length, get_or, set, bit_and, bit_or, w8, get_or-set_same, get_or-set_other, arith}
use Rattle.pcl_bitmap.proofs.Names.{nat_tests, pow_pos, shr-shr, bit_at-zero, bit_at_and, bit_at_or, bit_at_not, bit_at_ones, bit_at-lt, ones_shr, bit_at_cat_low, bit_at_cat_high, bit_at_mask_inside, bit_at_mask_below, bit_of_byte, dot_of_row}

pub bit_of_byte-or : (a b k : ℕ) → bit_of_byte (bit_or a b) k ≡ (bit_of_byte a k || bit_of_byte b k)
bit_of_byte-or a b k = grind (arith, nat_tests, bit_at_or a b (7 - k), bit_at-lt a (7 - k), bit_at-lt b (7 - k))

pub bit_of_byte-and : (a b k : ℕ) → bit_of_byte (bit_and a b) k ≡ (bit_of_byte a k && bit_of_byte b k)
bit_of_byte-and a b k = grind (arith, nat_tests, bit_at_and a b (7 - k), bit_at-lt a (7 - k), bit_at-lt b (7 - k))

pub bit_of_byte-not : {n k : ℕ} → n < 256 → k < 8 → bit_of_byte (255 - n) k ≡ (if bit_of_byte n k then false else true)
bit_of_byte-not {n} {k} byte small = grind (arith, nat_tests, bit_at_not w8 n (7 - k) byte (omega arith), bit_at-lt n (7 - k))

pub bit_of_byte-zero : (k : ℕ) → bit_of_byte 0 k ≡ false
bit_of_byte-zero k = grind (arith, nat_tests, bit_at-zero (7 - k))

-- all eight bits of 255 are set
pub bit_of_byte-all : {k : ℕ} → k < 8 → bit_of_byte 255 k ≡ true
bit_of_byte-all {k} small = grind (arith, nat_tests, bit_at_ones 8 (7 - k) (omega arith))

-- `!(0xFF >> n)` has the first n bits set
pub bit_of_byte-leading : {n k : ℕ} → n < 8 → k < 8 → bit_of_byte (255 - 255 / 2 ^ n) k ≡ nat_lt k n
bit_of_byte-leading {n} {k} few small =
    let shifted : 255 / 2 ^ n ≡ 2 ^ (8 - n) - 1 = ones_shr 8 n (omega arith) in
    let mask : 255 - 255 / 2 ^ n ≡ 2 ^ 8 - 2 ^ (8 - n) = rw shifted (omega (arith, pow_pos (8 - n))) in
    rw mask (grind (arith, nat_tests, bit_at_mask_inside (8 - n) 8 (7 - k), bit_at_mask_below (8 - n) 8 (7 - k)))

-- `& 0xFF` keeps the bits of the last byte
pub bit_of_byte-low : (n : ℕ) {k : ℕ} → k < 8 → bit_of_byte (bit_and n 255) k ≡ bit_of_byte n k
bit_of_byte-low n {k} small = grind (arith, bit_of_byte-and n 255 k, bit_of_byte-all small)

-- dot x of a row by the byte and the place in it
pub dot_at : (row : List ℕ) {x : ℕ} (j : ℕ) {m : ℕ} → m < 8 → x ≡ 8 * j + m → dot_of_row row x ≡ bit_of_byte (get_or row j 0) m
dot_at row {x} j {m} small place =
    let byte : x / 8 ≡ j = omega arith in
    let bit : x % 8 ≡ m = omega arith in
    rw (byte, bit)

-- dot k of a row after its byte i was written
pub dot_of_set : (row : List ℕ) (i v k : ℕ) → i < length row
    → dot_of_row (set row i v) k ≡ (if nat_eq (k / 8) i then bit_of_byte v (k % 8) else dot_of_row row k)
dot_of_set row i v k within = grind (arith, nat_tests, get_or-set_same row i v 0 within, get_or-set_other row i (k / 8) v 0)

-- the same where the byte's bits are given by their places in the row
pub dot_of_bits : (row : List ℕ) (i v k : ℕ) (bits : ℕ → Bool) → i < length row → ((m : ℕ) → m < 8 → bit_of_byte v m ≡ bits (8 * i + m))
    → dot_of_row (set row i v) k ≡ (if nat_eq (k / 8) i then bits k else dot_of_row row k)
dot_of_bits row i v k bits within written = rw dot_of_set (grind (arith, nat_tests, written (k % 8)))

-- eight dots of a row from dot 8 j - s on, which its bytes j - 1 and j hold
pub shifted_bits : (row : List ℕ) (p q j s k : ℕ)
    → s ≤ 8 → q < 256 → q ≡ get_or row j 0 → (0 < j → p ≡ get_or row (j - 1) 0) → (j ≡ 0 → p ≡ 0) → k < 8
    → bit_of_byte (bit_and ((p * 256 + q) / 2 ^ s) 255) k ≡ (nat_le s (8 * j + k) && dot_of_row row (8 * j + k - s))
shifted_bits row p q j s k few byte at_j before none small =
    let bit : ℕ = s + (7 - k) in
    let moved : (p * 256 + q) / 2 ^ s / 2 ^ (7 - k) ≡ (p * 256 + q) / 2 ^ (s + (7 - k)) = shr-shr (p * 256 + q) s (7 - k) in
    let second : s ≤ k → s + (7 - k) ≡ 7 - (k - s) = λ h. omega arith in
    let first : k < s → s + (7 - k) - 8 ≡ 7 - (8 + k - s) = λ h. omega arith in
    let here = dot_at row {x = 8 * j + k - s} j {m = k - s} in
    let left = dot_at row {x = 8 * j + k - s} (j - 1) {m = 8 + k - s} in
    let low = bit_at_cat_low p 8 q bit in
    let high = bit_at_cat_high p 8 q bit byte in
    let zero = bit_of_byte-zero (8 + k - s) in
    rw (bit_of_byte-low ((p * 256 + q) / 2 ^ s) small, moved) (grind (arith, nat_tests, second, first, low, high, here, left, zero))
