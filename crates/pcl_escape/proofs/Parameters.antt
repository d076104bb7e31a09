-- What a step of the code reads inside a sequence, by what it found: no letter, a fault of the checks, or a parameter.
use Rattle.std.proofs.Common.{◌≡◌, ℕ, Bool, true, false, if◌then◌else◌, List, length, Some, None, Err, arith}
use Rattle.pcl_escape.proofs.Names.{Profile, then_some, Truncated, Value, refusal, Prefix, prefix_name, Spelled, field_at}
use Rattle.pcl_escape.specs.inner.Scan.{parameter_at}

-- nothing is after the field at the front
pub nothing_after : (profile : Profile) (prefix : Prefix) (at : ℕ) (bytes : List ℕ) {field : Spelled} (rest : List ℕ)
    → (field, rest) ≡ field_at bytes
    → length rest ≡ 0 → parameter_at profile prefix at bytes ≡ Err (refusal Truncated at (prefix_name prefix))
unfolding parameter_at
nothing_after profile prefix at bytes rest e z = rw (← e) (grind arith)

-- a value that isn't given is out of range
pub not_given : (value : Value) (within : Bool) → None ≡ (if within then Some value else None) → within ≡ false
not_given value within e = grind arith

-- a value that is given is in range, and the field's
pub given : {value read : Value} (within : Bool) → Some read ≡ (if within then Some value else None) → (within ≡ true) × (read ≡ value)
given within e = grind arith

-- the sequence goes on where the letter says so
pub some_if : (on : Bool) (prefix : Prefix) → then_some {T = Prefix} on prefix ≡ (if on then Some prefix else None)
some_if on prefix = grind arith
