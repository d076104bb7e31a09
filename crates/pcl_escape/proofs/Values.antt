-- The value of a field of the code, whose digits before the point are read up to a limit.
use Rattle.std.proofs.Common.{◌≡◌, ℕ, ◌+◌, ◌*◌, ◌≤◌, min, nat_le, if◌then◌else◌, List, [], Option, Some, None, arith}
use Rattle.pcl_escape.proofs.Names.{nat_tests, then_some, Bor, unwrap_or, Sign, Value, digits_of, fraction_parts, greatest_parts, in_range, ten_thousandths}

-- the value of a number and its decimals
abbrev pub value_with : Sign → ℕ → ℕ → Value
value_with sign n t = record { sign = sign; parts = n * 10000 + t }

-- no value in range has a larger number than the limit
reach : (sign : Sign) → greatest_parts sign ≤ 655350000
reach sign = grind arith

-- the number up to the limit gives the same value where that is in range, and none where it isn't
pub value_read : {value : Option Value} (sign : Sign) (n t : ℕ) {number digits greatest : ℕ}
    → value ≡ then_some {T = Value} (nat_le (number * 10000 + digits) greatest) (value_with sign number digits) → number ≡ min n 65536
    → digits ≡ t → greatest ≡ greatest_parts sign → value ≡ (if in_range (value_with sign n t) then Some (value_with sign n t) else None)
value_read sign n t v e d g = let limit = reach sign in rw (v, e, d, g) (grind (arith, nat_tests))

-- the digits after the point, none where there is no point
pub fraction_read : (fraction : Option (Bor (List ℕ))) (none : Bor (List ℕ)) → none.now ≡ []
    → ten_thousandths (unwrap_or fraction none).now ≡ fraction_parts (digits_of fraction)
fraction_read fraction none e = grind arith
