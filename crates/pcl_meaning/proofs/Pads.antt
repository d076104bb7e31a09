-- Rows with no dot past their width.
use Rattle.std.proofs.Common.{◌≡◌, ℕ, zero, suc, ◌+◌, ◌-◌, ◌*◌, ◌/◌, ◌%◌, ◌^◌, ◌<◌, ◌≤◌, ◌==◌, false, List, [], ◌∷◌, refl, sym, ap, ◌∙◌, arith}
use Rattle.pcl_meaning.proofs.Names.{slice_index, nat_tests, pow-suc, div-div-eq-div-mul, mul_comm, mul_assoc, bit_of_byte, dot_of_row, first_bits, cleared_past}

-- the bits of a byte from bit n on are clear
abbrev AreClear : ℕ → ℕ → Type 0
AreClear n byte = (k : ℕ) → n ≤ k → k < 8 → bit_of_byte byte k ≡ false

-- the bit that this many units stand for
bit_clear : (byte unit : ℕ) → (byte / unit % 2 == 1) ≡ false → byte / unit % 2 ≡ 0
bit_clear byte unit e = grind (arith, nat_tests)

-- a byte whose lowest bits are clear is a multiple of what they stand for
lowest_clear : (count : ℕ) {byte : ℕ} → count ≤ 8 → AreClear (8 - count) byte → byte / 2 ^ count * 2 ^ count ≡ byte
lowest_clear zero le h = omega arith
lowest_clear (suc count) {byte} le h =
    let unit : ℕ = 2 ^ count in
    let fewer : byte / unit * unit ≡ byte = lowest_clear count (omega arith) (λ k from. h k (omega arith)) in
    let at : count ≡ 7 - (7 - count) = omega arith in
    let clear = bit_clear byte unit (ap (λ (n : ℕ). byte / 2 ^ n % 2 == 1) at ∙ h (7 - count) (omega arith) (omega arith)) in
    let half : byte / unit / 2 * 2 ≡ byte / unit = omega arith in
    rw (pow-suc 2 count, ← div-div-eq-div-mul byte unit 2)
    (ap (λ (n : ℕ). byte / unit / 2 * n) (mul_comm unit 2) ∙ sym (mul_assoc (byte / unit / 2) 2 unit)
    ∙ ap (λ (n : ℕ). n * unit) half ∙ fewer)

-- bits that are clear are cleared
first_is : (n : ℕ) {byte : ℕ} → AreClear n byte → first_bits n byte ≡ byte
first_is n h = lowest_clear (8 - n) (omega arith) (λ k from lt. h k (omega arith) lt)

dot_at : (bytes : List ℕ) (x i k : ℕ) → x / 8 ≡ i → x % 8 ≡ k → dot_of_row bytes x ≡ bit_of_byte (slice_index bytes i) k
dot_at bytes x i k a b = ap (λ (n : ℕ). bit_of_byte (slice_index bytes n) (x % 8)) a ∙ ap (bit_of_byte (slice_index bytes i)) b

-- the first eight dots of a row, and the others
first_dots : (byte : ℕ) (row : List ℕ) {k : ℕ} → k < 8 → dot_of_row (byte ∷ row) k ≡ bit_of_byte byte k
first_dots byte row {k} lt = dot_at (byte ∷ row) k 0 k (omega arith) (omega arith)

later_dots : (byte : ℕ) (row : List ℕ) (x : ℕ) → dot_of_row (byte ∷ row) (x + 8) ≡ dot_of_row row x
later_dots byte row x = dot_at (byte ∷ row) (x + 8) (suc (x / 8)) (x % 8) (omega arith) (omega arith)

-- a row with no dot past its width stays as it is
pub cleared_is : (row : List ℕ) {width : ℕ} → ((x : ℕ) → width ≤ x → dot_of_row row x ≡ false) → cleared_past width row ≡ row
cleared_is [] h = refl
cleared_is (byte ∷ row) {width} h =
    ap (λ (b : ℕ). b ∷ cleared_past (width - 8) row) (first_is width (λ k from lt. sym (first_dots byte row lt) ∙ h k from))
    ∙ ap (λ (bs : List ℕ). byte ∷ bs) (cleared_is row (λ x from. sym (later_dots byte row x) ∙ h (x + 8) (omega arith)))
