-- Bits that are spread to squares of dots.
use Rattle.std.proofs.Common.{◌≡◌, ℕ, ◌+◌, ◌-◌, ◌*◌, ◌/◌, ◌%◌, ◌^◌, ◌<◌, ◌≤◌, min, nat_lt, Bool, ◌||◌, if◌then◌else◌, List, get_or, bit_and, bit_or, add-zero, ap, ◌∙◌, arith}
use Rattle.pcl_bitmap.proofs.Names.{bit_at, div_ceil, mul-add-div_right, div_ceil_times, nat_tests, pow_pos, shr-shr, shl_whole, mul-le, div_below, le-div, mod_below, div-add-mod', div-mul-add, bit_at-zero, bit_at_or, bit_at_ones, bit_at_ones_above, ones_shr, bit_at_cat_low, bit_at_cat_high, bit_of_byte, dot_of_row, in_run, rectangle_dot, raster_dot}
use Rattle.pcl_bitmap.proofs.Bytes.{bit_of_byte-low, dot_at}

-- a quotient is below a number where the dividend is below its product
pub quotient_test : (m s n : ℕ) → 1 ≤ s → nat_lt (m / s) n ≡ nat_lt m (n * s)
quotient_test m s n some = grind (arith, nat_tests, div_below m s n some, le-div n m s some)

-- the bits of a number with s ones that was shifted to place m
square_bit : (s m j : ℕ) → 1 ≤ s → s ≤ 8 → s + m ≤ 64
    → bit_at (255 / 2 ^ (8 - s) * 2 ^ m % 2 ^ 64) j ≡ (if in_run m (m + s) j then 1 else 0)
square_bit s m j some few fits =
    let back : 8 - (8 - s) ≡ s = omega arith in
    let ones : 255 / 2 ^ (8 - s) ≡ 2 ^ s - 1 = ones_shr 8 (8 - s) (omega arith) ∙ ap (λ n. 2 ^ n - 1) back in
    let small : 2 ^ s - 1 < 2 ^ s = omega (arith, pow_pos s) in
    let high = bit_at_cat_high (2 ^ s - 1) m 0 j (pow_pos m) in
    rw (ones, shl_whole (2 ^ s - 1) s m 64 small fits, ← add-zero ((2 ^ s - 1) * 2 ^ m))
    (grind (arith, nat_tests, bit_at_cat_low (2 ^ s - 1) m 0 j, high, bit_at-zero j, bit_at_ones s (j - m), bit_at_ones_above s (j - m)))

-- the bits of a byte below bit i, each s times
abbrev pub spread_bit : (byte s i j : ℕ) → ℕ
spread_bit byte s i j = if nat_lt (j / s) i then bit_at byte (j / s) else 0

-- bit i is set, and the bits below are spread
pub spread_set : (wide byte s i j : ℕ) → 1 ≤ s → s ≤ 8 → i < 8 → bit_at byte i ≡ 1 → bit_at wide j ≡ spread_bit byte s i j
    → bit_at (bit_or wide (255 / 2 ^ (8 - s) * 2 ^ (s * i) % 2 ^ 64)) j ≡ spread_bit byte s (i + 1) j
spread_set wide byte s i j some few small is_set above =
    let fits : s + s * i ≤ 64 = omega (arith, mul-le s i 8 7 few (omega arith)) in
    let until = quotient_test j s (i + 1) some in
    rw (bit_at_or, square_bit s (s * i) j some few fits) (grind (arith, nat_tests, quotient_test j s i some, until))

-- counted from the other end
mirror : {s q : ℕ} → 1 ≤ s → q < 8 * s → (8 * s - 1 - q) / s ≡ 7 - q / s
mirror {s} {q} some h =
    let whole : q / s * s + q % s ≡ q = div-add-mod' q s in
    let short : q % s < s = mod_below q s some in
    let few : q / s < 8 = div_below q s 8 some h in
    let other : ℕ = 7 - q / s in
    let parts : other + q / s ≡ 7 = omega arith in
    let product : (other + q / s) * s ≡ 7 * s = ap (λ n. n * s) parts in
    let place : 8 * s - 1 - q ≡ other * s + (s - 1 - q % s) = omega arith in
    rw (place, div-mul-add other s (s - 1 - q % s) (omega arith))

-- byte `part` of the spread bits
pub part_bits : (wide byte s part : ℕ) → 1 ≤ s → part < s → ((j : ℕ) → bit_at wide j ≡ bit_at byte (j / s))
    → (m : ℕ) → m < 8 → bit_of_byte (bit_and (wide / 2 ^ (8 * (s - 1 - part))) 255) m ≡ bit_of_byte byte ((8 * part + m) / s)
part_bits wide byte s part some within bits m small =
    let e : ℕ = 8 * (s - 1 - part) in
    let place : e + (7 - m) ≡ 8 * s - 1 - (8 * part + m) = omega arith in
    let turned = mirror {s = s} {q = 8 * part + m} some (omega arith) in
    rw (bit_of_byte-low (wide / 2 ^ e) small, shr-shr wide e (7 - m), bits (e + (7 - m)), place, turned)

-- a quotient by the products that are left out
quotient_moved : {s : ℕ} (b k rest : ℕ) → 1 ≤ s → k ≡ b * s + rest → k / s ≡ b + rest / s
quotient_moved {s} b k rest some parts = rw (parts, mul-add-div_right some b rest)

-- one byte more of a row is spread
pub spread_more : (row now new : List ℕ) (s first i k : ℕ) → 1 ≤ s
    → (k < 8 * (s * i) → dot_of_row now k ≡ dot_of_row row (8 * first + k / s)) → dot_of_row new k
    ≡ (if in_run (8 * (s * i)) (8 * (s * i + s)) k then bit_of_byte (get_or row (first + i) 0) ((k - 8 * (s * i)) / s)
    else dot_of_row now k) → k < 8 * (s * (i + 1)) → dot_of_row new k ≡ dot_of_row row (8 * first + k / s)
spread_more row now new s first i k some above added within =
    let small = div_below (k - 8 * (s * i)) s 8 some in
    let moved = quotient_moved (8 * i) k (k - 8 * (s * i)) some in
    grind (arith, nat_tests, small, moved, dot_at row {x = 8 * first + k / s} (first + i) {m = (k - 8 * (s * i)) / s})

-- the squares of a row of raster data, cut at the page's edges
pub squares_dot : (wide high x y w h s width px py : ℕ) (row : List ℕ) (d : Bool)
    → 1 ≤ s → x < wide → y < high → w ≡ min (width * s) (wide - x) → h ≡ min s (high - y) → px < wide → py < high
    → (if rectangle_dot x y w h px py then dot_of_row row ((px - x) / s) || d else d) ≡ (raster_dot x y s width row px py || d)
squares_dot wide high x y w h s width px py row d some start top e_w e_h within on_page =
    let across = quotient_test (px - x) s width some in
    let down = quotient_test (py - y) s 1 some in
    grind (arith, nat_tests)

-- what is said of n bytes, w dots of which are needed: they spread to w dots, and to less than a byte's squares more
pub spread_count : {s w n : ℕ} → 1 ≤ s → n ≡ div_ceil w (8 * s) → (w ≤ 8 * (s * n)) × (8 * (s * n) < w + 8 * s)
spread_count {s} {w} {n} some e =
    let both = div_ceil_times w (8 * s) (omega arith) in
    let product : n * (8 * s) ≡ div_ceil w (8 * s) * (8 * s) = ap (λ m. m * (8 * s)) e in
    (omega (arith, both.0), omega (arith, both.1))

-- a row that is seen from dot u on, where n bytes of dots are needed: it was spread from a byte on, and the dots of that byte
-- before dot u are skipped
pub spread_dot : (row spread : List ℕ) (s u n count k : ℕ) → 1 ≤ s → count ≡ div_ceil (u % (8 * s) + 8 * n) (8 * s) → k < 8 * n
    → ((m : ℕ) → m < 8 * (s * count) → dot_of_row spread m ≡ dot_of_row row (8 * (u / (8 * s)) + m / s))
    → dot_of_row spread (u % (8 * s) + k) ≡ dot_of_row row ((u + k) / s)
spread_dot row spread s u n count k some e small bits =
    let whole : u / (8 * s) * (8 * s) + u % (8 * s) ≡ u = div-add-mod' u (8 * s) in
    rw (quotient_moved (8 * (u / (8 * s))) (u + k) (u % (8 * s) + k) some (omega arith))
    (bits (u % (8 * s) + k) (omega (arith, (spread_count {s = s} some e).0)))
