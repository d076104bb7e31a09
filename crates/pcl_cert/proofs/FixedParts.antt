-- The length of the fixed part of a page text.
use Rattle.std.proofs.Common.{◌≡◌, refl, ◌++◌, ℕ, ◌+◌, ◌/◌, ◌%◌, ◌<◌, ◌≤◌, [], ◌∷◌, length, ap, ◌∙◌, arith}
use Rattle.pcl_cert.proofs.Names.{decimal, decimal_digit, decimal_step, length-append, Dpi, Size, code_of, fixed_bytes, raster_start, start_is, start_bytes, Dpi300, Executive}
use Rattle.std.specs.Fmt.{digits}

raster_length : (size : Size) (dpi : Dpi) → length (raster_start size dpi) ≡ 26
unfolding digits
raster_length Executive Dpi300 = refl
raster_length _ Dpi300 = refl
raster_length _ _ = refl

pub one_digit : {n : ℕ} → n < 10 → length (decimal n) ≡ 1
one_digit {n} lt = ap length (decimal_digit n lt)

pub two_digits : {n : ℕ} → 10 ≤ n → n < 100 → length (decimal n) ≡ 2
two_digits {n} le lt =
    ap length (decimal_step n le (omega arith)) ∙ length-append (decimal (n / 10)) ((48 + n % 10) ∷ [])
    ∙ ap (λ (k : ℕ). k + 1) (one_digit (omega arith))

pub fixed_length : (dpi : Dpi) (size : Size) (copies : ℕ) → fixed_bytes dpi size copies
    ≡ 36 + length (decimal copies) + length (decimal (code_of size))
fixed_length dpi size copies =
    let code = length-append (decimal (code_of size)) (97 ∷ (raster_start size dpi ++ [])) in
    let both = length-append (decimal copies) (120 ∷ (decimal (code_of size) ++ 97 ∷ (raster_start size dpi ++ []))) in
    let whole = ap length (start_is dpi copies size []) in
    omega (arith, length-append (start_bytes dpi copies size) [], length-append (raster_start size dpi) [], raster_length size dpi)
