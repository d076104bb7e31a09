-- Rows within the bytes of a page: r bytes a row.
use Rattle.std.proofs.Common.{◌≡◌, ℕ, ◌+◌, ◌-◌, ◌*◌, ◌/◌, ◌%◌, ◌<◌, ◌≤◌, false, List, length, get_or, take, drop, replicate, All, refl, sym, ap, ◌∙◌, inl, inr, lit<, arith, length-take}
use Rattle.pcl_bitmap.proofs.Names.{cases_lt, nat_tests, get_or-take, get_or-drop, get_or_past, ext_get_or, All-get_or, All-from_get_or, All-take, All-drop, All-replicate, row_fits, mul-le, div_below, div-add-mod', mod_below, bit_at-lt, same_from_bits_below, bit_of_byte, dot_of_row}
use Rattle.pcl_bitmap.proofs.Bytes.{bit_of_byte-zero, dot_at}

-- a dot of a row is a bit of the page's bytes
pub dot_in_page : (bs : List ℕ) (r : ℕ) {x : ℕ} (y : ℕ) → x < 8 * r
    → dot_of_row (take r (drop (y * r) bs)) x ≡ dot_of_row bs (8 * (y * r) + x)
dot_in_page bs r {x} y h =
    let within : x / 8 < r = omega arith in
    ap (λ n. bit_of_byte n (x % 8)) (get_or-take r (drop (y * r) bs) (x / 8) 0 within ∙ get_or-drop (y * r) bs (x / 8) 0)
    ∙ sym (dot_at bs (y * r + x / 8) (omega arith) (omega arith))

-- past its bytes a row is white
pub dot_past_row : (zs : List ℕ) (r : ℕ) {x : ℕ} → 8 * r ≤ x → dot_of_row (take r zs) x ≡ false
dot_past_row zs r {x} h =
    ap (λ n. bit_of_byte n (x % 8)) (get_or_past (take r zs) (x / 8) 0 (omega (arith, length-take r zs))) ∙ bit_of_byte-zero (x % 8)

-- a row of zeros is white
pub white_from_zeros : (zs : List ℕ) → All (λ n. n ≡ 0) zs → (x : ℕ) → dot_of_row zs x ≡ false
white_from_zeros zs zeros x =
    let zero : get_or zs (x / 8) 0 ≡ 0 = grind (arith, All-get_or (λ n. n ≡ 0) zs (x / 8) 0, get_or_past zs (x / 8) 0) in
    rw zero (bit_of_byte-zero (x % 8))

-- a page of zeros is white
pub dot_of_zeros : (n r x y : ℕ) → dot_of_row (take r (drop (y * r) (replicate n 0))) x ≡ false
dot_of_zeros n r x y =
    white_from_zeros (take r (drop (y * r) (replicate n 0)))
    (All-take (λ n. n ≡ 0) r _ (All-drop (λ n. n ≡ 0) (y * r) _ (All-replicate (λ n. n ≡ 0) n 0 refl))) x

-- a row that is above another ends before that
pub rows_apart : (a b r : ℕ) → a < b → a * r + r ≤ b * r
rows_apart a b r h = row_fits a r b r h (omega arith)

-- bytes with the same bits are equal
pub same_byte : {a b : ℕ} → a < 256 → b < 256 → ((k : ℕ) → k < 8 → bit_of_byte a k ≡ bit_of_byte b k) → a ≡ b
same_byte {a} {b} p q h =
    same_from_bits_below 8 a b p q (λ i small.
    let place : 7 - (7 - i) ≡ i = omega arith in
    grind (arith, nat_tests, place, h (7 - i) (omega arith), bit_at-lt a i, bit_at-lt b i))

-- pages of h rows with the same dots across w dots, and clear pads, have the same bytes
pub same_pages : (r w h : ℕ) (a b : List ℕ) → length a ≡ h * r → length b ≡ h * r → All (λ n. n < 256) a → All (λ n. n < 256) b
    → ((x y : ℕ) → w ≤ x → dot_of_row (take r (drop (y * r) a)) x ≡ false)
    → ((x y : ℕ) → w ≤ x → dot_of_row (take r (drop (y * r) b)) x ≡ false)
    → ((x y : ℕ) → x < w → y < h → dot_of_row (take r (drop (y * r) a)) x ≡ dot_of_row (take r (drop (y * r) b)) x) → a ≡ b
same_pages r w h a b la lb fa fb pa pb same =
    ext_get_or 0 a b (la ∙ sym lb) (λ i within.
    let some : 0 < r = elim (cases_lt 0 r) [ inl some ↦ some | inr none ↦ absurd (omega (arith, mul-le h r h 0 (omega arith) none)) ] in
    let y : ℕ = i / r in
    let j : ℕ = i % r in
    let place : i ≡ y * r + j = sym (div-add-mod' i r) in
    let short : j < r = mod_below i r some in
    let on_page : y < h = div_below i r h some (omega arith) in
    same_byte (All-get_or (λ n. n < 256) a i 0 within fa) (All-get_or (λ n. n < 256) b i 0 (omega arith) fb) (λ k small.
    let x : ℕ = 8 * j + k in
    let spot : 8 * (y * r) + x ≡ 8 * i + k = omega arith in
    let in_b = dot_in_page b r y (omega arith) ∙ dot_at b i small spot in
    grind (arith, sym (dot_at a i small spot) ∙ sym (dot_in_page a r y (omega arith)), in_b, same x y, pa x y, pb x y)))

-- a row with clear pads is all zeros where its dots across w are white
pub zeros_from_white : (zs : List ℕ) (w : ℕ) → All (λ n. n < 256) zs → ((x : ℕ) → w ≤ x → dot_of_row zs x ≡ false)
    → ((x : ℕ) → x < w → dot_of_row zs x ≡ false) → All (λ n. n ≡ 0) zs
zeros_from_white zs w bytes pads white =
    All-from_get_or (λ n. n ≡ 0) zs 0 (λ i within. same_byte (All-get_or (λ n. n < 256) zs i 0 within bytes) (lit< tt) (λ k small.
    grind (arith, dot_at zs i small refl, white (8 * i + k), pads (8 * i + k), bit_of_byte-zero k)))
