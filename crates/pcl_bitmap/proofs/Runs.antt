-- Runs of bits, byte by byte and part by part.
use Rattle.std.proofs.Common.{◌≡◌, ℕ, ◌+◌, ◌-◌, ◌*◌, ◌/◌, ◌%◌, ◌<◌, ◌≤◌, nat_le, nat_lt, Bool, ◌&&◌, ◌||◌, List, ◌++◌, length, get_or, set, take, drop, bit_and, bit_or, refl, ap, ◌∙◌, arith}
use Rattle.pcl_bitmap.proofs.Names.{nat_tests, get_or-take, get_or-drop, get_or_append_left, length-take-le, bit_of_byte, dot_of_row, in_run, run_dot}
use Rattle.pcl_bitmap.proofs.Bytes.{bit_of_byte-or, bit_of_byte-and, bit_of_byte-not, dot_at, dot_of_bits}

-- some bits are in place from byte `first` up to byte i, and then up to the next
pub part_more : (old now : List ℕ) (first i m : ℕ) (bits : ℕ → Bool) → i < length now → first ≤ i
    → ((k : ℕ) → k < 8 → bit_of_byte m k ≡ bits (8 * i + k))
    → ((k : ℕ) → dot_of_row now k ≡ ((in_run (8 * first) (8 * i) k && bits k) || dot_of_row old k))
    → (k : ℕ) → dot_of_row (set now i (bit_or (get_or now i 0) m)) k ≡ ((in_run (8 * first) (8 * (i + 1)) k && bits k) || dot_of_row old k)
part_more old now first i m bits within start added above k =
    let after = dot_of_bits now i (bit_or (get_or now i 0) m) k (λ n. dot_of_row now n || bits n) within
    (λ n small. rw (bit_of_byte-or, dot_at now i small refl, added n small)) in
    grind (arith, nat_tests, after, above k)

-- no byte yet
none_yet : (i k : ℕ) (bit before : Bool) → before ≡ ((in_run (8 * i) (8 * i) k && bit) || before)
none_yet i k bit before = grind (arith, nat_tests)

-- some bits are in place in byte i
pub part_alone : (old : List ℕ) (i m : ℕ) (bits : ℕ → Bool) → i < length old → ((k : ℕ) → k < 8 → bit_of_byte m k ≡ bits (8 * i + k))
    → (k : ℕ) → dot_of_row (set old i (bit_or (get_or old i 0) m)) k ≡ ((in_run (8 * i) (8 * (i + 1)) k && bits k) || dot_of_row old k)
part_alone old i m bits within added =
    part_more old old i i m bits within (omega arith) added (λ k. none_yet i k (bits k) (dot_of_row old k))

-- the bytes of a run that lies in one byte, or in two
pub one_joined : (from end f : ℕ) (row : List ℕ) (k : ℕ) (d0 d1 : Bool) → 8 * f ≤ from → end ≤ 8 * (f + 1)
    → d1 ≡ ((in_run (8 * f) (8 * (f + 1)) k && run_dot from end row k) || d0) → d1 ≡ (run_dot from end row k || d0)
one_joined from end f row k d0 d1 low stop e1 = grind (arith, nat_tests)

pub two_joined : (from end f : ℕ) (row : List ℕ) (k : ℕ) (d0 d1 d2 : Bool) → 8 * f ≤ from → end ≤ 8 * (f + 2)
    → d1 ≡ ((in_run (8 * f) (8 * (f + 1)) k && run_dot from end row k) || d0)
    → d2 ≡ ((in_run (8 * (f + 1)) (8 * (f + 1 + 1)) k && run_dot from end row k) || d1) → d2 ≡ (run_dot from end row k || d0)
two_joined from end f row k d0 d1 d2 low stop e1 e2 = grind (arith, nat_tests)

-- the byte that is added to byte i has the run's bits there
pub added_bits : (row : List ℕ) (from end i b m : ℕ) → from / 8 ≤ i → ((k : ℕ) → k < 8
    → bit_of_byte b k ≡ (nat_le (from % 8) (8 * (i - from / 8) + k) && dot_of_row row (8 * (i - from / 8) + k - from % 8)))
    → ((k : ℕ) → k < 8 → bit_of_byte m k ≡ nat_lt k (end - 8 * i))
    → (k : ℕ) → k < 8 → bit_of_byte (bit_and b m) k ≡ run_dot from end row (8 * i + k)
added_bits row from end i b m since bits mask k small =
    let place : 8 * (i - from / 8) + k - from % 8 ≡ 8 * i + k - from = omega arith in
    rw (bit_of_byte-and, bits k small, mask k small, place) (grind (arith, nat_tests))

-- the first byte of a run, those up to byte t that two bytes of the row fill, and those up to byte l
pub parts_joined : (from end f t l : ℕ) (row : List ℕ) (k : ℕ) (d0 d1 d2 d3 : Bool)
    → 8 * f ≤ from → from < 8 * (f + 1) → end ≤ 8 * l → (f + 1 < t → 8 * t ≤ end)
    → d1 ≡ ((in_run (8 * f) (8 * (f + 1)) k && run_dot from end row k) || d0)
    → d2 ≡ ((in_run (8 * (f + 1)) (8 * t) k && dot_of_row row (k - from)) || d1)
    → d3 ≡ ((in_run (8 * t) (8 * l) k && run_dot from end row k) || d2) → f < t → d3 ≡ (run_dot from end row k || d0)
parts_joined from end f t l row k d0 d1 d2 d3 low high stop whole e1 e2 e3 order = grind (arith, nat_tests)

-- the first bytes of a row have its first bits, and the bytes after them the others
pub take_dots : (w : ℕ) (row : List ℕ) {x : ℕ} → x < 8 * w → dot_of_row (take w row) x ≡ dot_of_row row x
take_dots w row {x} inside = ap (λ n. bit_of_byte n (x % 8)) (get_or-take w row (x / 8) 0 (omega arith))

drop_dots : (w : ℕ) (row : List ℕ) (x : ℕ) {y : ℕ} → y ≡ 8 * w + x → dot_of_row (drop w row) x ≡ dot_of_row row y
drop_dots w row x {y} moved =
    let byte : w + x / 8 ≡ y / 8 = omega arith in
    let bit : x % 8 ≡ y % 8 = omega arith in
    ap (λ n. bit_of_byte n (x % 8)) (get_or-drop w row (x / 8) 0) ∙ rw (byte, bit)

-- the bytes that were written to the front of a list
pub front_dots : (dots new : List ℕ) {n k : ℕ} → length new ≡ n → k < 8 * n → dot_of_row (new ++ drop n dots) k ≡ dot_of_row new k
front_dots dots new {n} {k} long inside = ap (λ b. bit_of_byte b (k % 8)) (get_or_append_left new (drop n dots) 0 (k / 8) (omega arith))

-- first the run of a row's whole first bytes, and then that of the others
pub run_dot-joined : (from end w : ℕ) (row : List ℕ) (k : ℕ) (before between : Bool) → w ≤ length row → from % 8 ≡ 0 → from + 8 * w ≤ end
    → between ≡ (run_dot (8 * (from / 8)) (8 * (from / 8 + length (take w row))) (take w row) k || before)
    → (run_dot (from + 8 * w) end (drop w row) k || between) ≡ (run_dot from end row k || before)
run_dot-joined from end w row k before between within aligned fits painted =
    let long : length (take w row) ≡ w = length-take-le w row within in
    grind (arith, nat_tests, take_dots w row {x = k - 8 * (from / 8)}, drop_dots w row (k - (from + 8 * w)) {y = k - from})

-- the byte that has the bits of a run set, from the bytes with the bits up to each of its ends
pub mask_bit : (a b from end k : ℕ) → b < 256 → k < 8 → bit_of_byte a k ≡ nat_lt k end → bit_of_byte b k ≡ nat_lt k from
    → bit_of_byte (bit_and a (255 - b)) k ≡ in_run from end k
mask_bit a b from end k byte small upper lower = rw bit_of_byte-and (grind (arith, nat_tests, bit_of_byte-not {n = b} {k = k} byte small))
