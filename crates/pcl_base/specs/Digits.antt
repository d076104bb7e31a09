-- Decimal digits, and the number that they spell.
use Rattle.std.specs.Prelude.{ℕ, ◌+◌, ◌*◌, ◌-◌, Bool, ◌&&◌, nat_le, List, fold, IsTrue}
use Rattle.std.specs.List.{AllByRecursion}

-- a decimal digit
abbrev pub is_digit : ℕ → Bool
is_digit byte = nat_le 48 byte && nat_le byte 57

-- all of these bytes are decimal digits
abbrev pub AreDigits : List ℕ → Type 0
AreDigits digits = AllByRecursion (λ digit. IsTrue (is_digit digit)) digits

-- the number that digits spell
abbrev pub number_of : List ℕ → ℕ
number_of digits = fold (λ n digit. n * 10 + (digit - 48)) 0 digits
