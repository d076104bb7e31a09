-- Numbers of two bytes, one after the other.
use Rattle.std.proofs.Common.{◌≡◌, ℕ, zero, suc, ◌+◌, ◌-◌, ◌*◌, ◌<◌, ◌≤◌, false, nat_eq, List, length, get_or, take, drop, refl, ap, arith}
use Rattle.pcl_cert.proofs.Names.{w16, from_be_bytes, to_be_bytes, flat_map, drop-drop, drop-take, take-take, length-drop, flat_map-cons, take-add, list_bytes, ends_in_zero, count_at_front, list_from}
use Rattle.pcl_cert.specs.RowTables.{numbers_from}
use Rattle.pcl_cert.proofs.FieldsRead.{AreBytes, rest_bytes, two_bytes, front_spelled}

pub length_numbers : (n : ℕ) (bytes : List ℕ) → length (numbers_from n bytes) ≡ n
unfolding numbers_from
length_numbers zero bytes = refl
length_numbers (suc n) bytes = ap suc (length_numbers n (drop 2 bytes))

-- only the bytes of the numbers are looked at
pub numbers_of_front : (n : ℕ) (bytes : List ℕ) → numbers_from n (take (2 * n) bytes) ≡ numbers_from n bytes
unfolding numbers_from
numbers_of_front zero bytes = refl
numbers_of_front (suc n) bytes = grind (arith, take-take 2 (2 * suc n) bytes, drop-take 2 (2 * n) bytes, numbers_of_front n (drop 2 bytes))

-- the last of the numbers
pub end_of_numbers : (count : ℕ) (bytes : List ℕ) → 0 < count
    → ends_in_zero (numbers_from count bytes) ≡ nat_eq (from_be_bytes w16 (take 2 (drop (2 * (count - 1)) bytes))) 0
unfolding numbers_from
end_of_numbers zero bytes some = absurd (omega arith)
end_of_numbers (suc zero) bytes some = refl
end_of_numbers (suc (suc n)) bytes some = grind (arith, end_of_numbers (suc n) (drop 2 bytes), drop-drop (2 * n) 2 bytes)

pub no_numbers_end : (count : ℕ) (bytes : List ℕ) → count ≡ 0 → false ≡ ends_in_zero (numbers_from count bytes)
unfolding numbers_from
no_numbers_end zero bytes none = refl
no_numbers_end (suc n) bytes none = absurd (omega arith)

-- number k of them, and 0 after all
pub number_within : (n k : ℕ) (bytes : List ℕ) → k < n → get_or (numbers_from n bytes) k 0 ≡ from_be_bytes w16 (take 2 (drop (2 * k) bytes))
unfolding numbers_from
number_within zero k bytes lt = absurd (omega arith)
number_within (suc n) zero bytes lt = refl
number_within (suc n) (suc k) bytes lt = grind (arith, number_within n k (drop 2 bytes), drop-drop (2 * k) 2 bytes)

-- ---- the bytes that spell them

pub numbers_spelled : (n : ℕ) (bytes : List ℕ) → AreBytes bytes → 2 * n ≤ length bytes
    → flat_map (to_be_bytes w16) (numbers_from n bytes) ≡ take (2 * n) bytes
unfolding numbers_from
numbers_spelled zero bytes are long = refl
numbers_spelled (suc n) bytes are long =
    let more : 2 * suc n ≡ 2 + 2 * n = omega arith in
    let rest = numbers_spelled n (drop 2 bytes) (rest_bytes 2 bytes are) (omega (arith, length-drop 2 bytes)) in
    let first : to_be_bytes w16 (from_be_bytes w16 (take 2 bytes)) ≡ take 2 bytes = front_spelled two_bytes bytes are (omega arith) in
    let both = flat_map-cons (to_be_bytes w16) (from_be_bytes w16 (take 2 bytes)) (numbers_from n (drop 2 bytes)) in
    let whole = take-add 2 (2 * n) bytes in cc

-- the list at the front of bytes, spelled
pub list_spelled : (bytes : List ℕ) → AreBytes bytes → 2 + 2 * count_at_front bytes ≤ length bytes
    → list_bytes (list_from bytes) ≡ take (2 + 2 * count_at_front bytes) bytes
list_spelled bytes are long =
    let count : ℕ = count_at_front bytes in
    let numbers = numbers_spelled count (drop 2 bytes) (rest_bytes 2 bytes are) (omega (arith, length-drop 2 bytes)) in
    let first : to_be_bytes w16 count ≡ take 2 bytes = front_spelled two_bytes bytes are (omega arith) in
    let size = length_numbers count (drop 2 bytes) in
    let whole = take-add 2 (2 * count) bytes in cc
