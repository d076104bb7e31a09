-- The bits of a row past its width.
use Rattle.std.proofs.Common.{◌≡◌, ℕ, zero, suc, ◌+◌, ◌-◌, ◌*◌, ◌/◌, ◌%◌, ◌^◌, ◌<◌, ◌≤◌, List, [], ◌∷◌, length, get_or, refl, sym, ap, ◌∙◌, arith}
use Rattle.pcl_page.proofs.Names.{set, pow_mono, pow_pos, first_bits, cleared_past}

-- eight bits are a whole byte
pub whole_byte : (width byte : ℕ) → 8 ≤ width → first_bits width byte ≡ byte
whole_byte width byte le =
    let none : 8 - width ≡ 0 = omega arith in
    let one : byte / 1 * 1 ≡ byte = omega arith in rw none one

-- a row that is as wide as its bytes
pub cleared_whole : (row : List ℕ) {width : ℕ} → width ≡ 8 * length row → row ≡ cleared_past width row
cleared_whole [] e = refl
cleared_whole (byte ∷ row) {width} e =
    ap (λ (bs : List ℕ). byte ∷ bs) (cleared_whole row (omega arith))
    ∙ ap (λ (b : ℕ). b ∷ cleared_past (width - 8) row) (sym (whole_byte width byte (omega arith)))

-- in the last byte of a row some bits are kept
cleared_at : (row : List ℕ) {width : ℕ} (last : ℕ) {rest : ℕ} → length row ≡ last + 1 → width ≡ 8 * last + rest → 0 < rest → rest < 8
    → set row last (get_or row last 0 - get_or row last 0 % 2 ^ (8 - rest)) ≡ cleared_past width row
cleared_at [] last long e some few = absurd (omega arith)
cleared_at (byte ∷ next ∷ row) zero long e some few = absurd (omega arith)
cleared_at (byte ∷ []) {width} zero {rest} long e some few =
    let same : rest ≡ width = omega arith in
    rw (← same) (ap (λ (b : ℕ). b ∷ []) (omega (arith, pow_pos (8 - rest))))
cleared_at (byte ∷ row) {width} (suc last) long e some few =
    ap (λ (bs : List ℕ). byte ∷ bs) (cleared_at row last (omega arith) (omega arith) some few)
    ∙ ap (λ (b : ℕ). b ∷ cleared_past (width - 8) row) (sym (whole_byte width byte (omega arith)))

-- the same with the numbers of the code
pub cleared_last : (row : List ℕ) (width : ℕ) → length row ≡ (width + 7) / 8 → 0 < width % 8
    → set row (length row - 1) (get_or row (length row - 1) 0 - get_or row (length row - 1) 0 % (1 * 2 ^ (8 - width % 8) % 256))
    ≡ cleared_past width row
cleared_last row width long some =
    let small : 2 ^ (8 - width % 8) ≤ 2 ^ 7 = pow_mono {i = 8 - width % 8} {j = 7} (omega arith) in
    let step : 1 * 2 ^ (8 - width % 8) % 256 ≡ 2 ^ (8 - width % 8) = omega (arith, small) in
    rw step (cleared_at row (length row - 1) (omega arith) (omega arith) some (omega arith))
