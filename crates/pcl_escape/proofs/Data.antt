-- How many data bytes a command takes, by the whole part that the code has as a signed number.
use Rattle.std.proofs.Common.{◌≡◌, ℕ, zero, suc, ℤ, pos, nat_abs, int_lt, ◌<◌, ◌≢◌, true, false, ◌&&◌, nat_lt, if◌then◌else◌, Option, Some, Result, Ok, Err, refl, sym, ap, ◌∙◌}
use Rattle.pcl_base.specs.Operation.{has}
use Rattle.pcl_escape.proofs.Names.{Profile, ne_eqb, to_z-of_z, w32, cast_signed, cast_unsigned, mag, Kind, Truncated, BadSequence, Operation, Sign, Minus, Value, takes_data, with_sign, signed_whole, whole_of, is_minus, is_below_zero, goes_on, operation_checks}

-- the value counts this many bytes
pub record Counts (value : Value) (n : ℕ) : Type 0 where
  pub not_below : is_below_zero value ≡ false
  pub whole : whole_of value ≡ n

-- a number of 32 bits with a sign, through its bits
abbrev pub through_bits : ℤ → ℤ
through_bits z = cast_signed w32 (cast_unsigned w32 z)

-- a sign and a number that aren't below 0
not_below_by : (sign : Sign) (n : ℕ) → int_lt (with_sign sign n) (pos 0) ≡ false
    → ((is_minus sign && nat_lt 0 n) ≡ false) × (n ≡ nat_abs (with_sign sign n))
not_below_by Minus (suc n) e = absurd cc
not_below_by Minus zero e = (refl, refl)
not_below_by _ n e = (refl, refl)

-- a whole part that isn't below 0 counts bytes
pub counts : (value : Value) {y z : ℤ} → mag z < 2147483648 → y ≡ signed_whole value → z ≡ signed_whole value
    → int_lt (through_bits y) (pos 0) ≡ false → Counts value (nat_abs (through_bits z))
counts value {y} {z} fits a b e =
    let same : through_bits z ≡ signed_whole value = to_z-of_z w32 z (record { sfits = fits }) ∙ b in
    let parts = not_below_by value.sign (whole_of value) (ap (λ (x : ℤ). int_lt x (pos 0)) (sym same ∙ ap through_bits (b ∙ sym a)) ∙ e) in
    record { not_below = parts.0; whole = parts.1 ∙ ap nat_abs (sym same) }

-- the checks of a value that counts bytes, of which there are as many as are left
abbrev pub counted_checks : ℕ → ℕ → ℕ → Result ℕ Kind
counted_checks letter n left = if goes_on letter then Err BadSequence else (if nat_lt left n then Err Truncated else Ok n)

-- they are the checks of a command that takes data
pub counted : (profile : Profile) {named : Option Operation} {operation : Operation} {value : Value} {n : ℕ} (letter left : ℕ)
    → Some operation ≡ named
    → has profile operation ≡ true → takes_data operation ≡ true → Counts value n → n ≢ 0
    → operation_checks profile named letter value left ≡ counted_checks letter n left
counted profile {n = n} letter left e h t c some = rw (← e, h, t, c.not_below, c.whole, ne_eqb n 0 some) refl
