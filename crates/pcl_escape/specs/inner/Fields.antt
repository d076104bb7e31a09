-- Value fields, from left to right.
use Rattle.std.specs.Prelude.{ℕ, ◌==◌, if◌then◌else◌, List, [], ◌∷◌, take, drop, Option, Some, None}
use Rattle.std.specs.List.{prefix_len}
use Rattle.pcl_base.specs.declared.value.Sign.{Sign}
use Rattle.pcl_base.specs.declared.value.Sign.TheVariants.{Absent, Plus, Minus}
use Rattle.pcl_escape.specs.Field.{Spelled}
use Rattle.pcl_base.specs.Digits.{is_digit}

-- ---- reading one from the left

-- the sign at the front, and the bytes after it
abbrev pub sign_at : List ℕ → Sign × List ℕ
sign_at [] = (Absent, [])
sign_at (byte ∷ bytes) = if byte == 43 then (Plus, bytes) else (if byte == 45 then (Minus, bytes) else (Absent, byte ∷ bytes))

-- all digits at the front, and the bytes after them
abbrev pub digits_at : List ℕ → List ℕ × List ℕ
digits_at bytes = (take (prefix_len is_digit bytes) bytes, drop (prefix_len is_digit bytes) bytes)

-- a point and digits, if a point is there
abbrev pub fraction_at : List ℕ → Option (List ℕ) × List ℕ
fraction_at [] = (None, [])
fraction_at (byte ∷ bytes) = if byte == 46 then (let digits = digits_at bytes in (Some digits.0, digits.1)) else (None, byte ∷ bytes)

-- the field at the front, and the bytes after it
unfoldable pub field_at : List ℕ → Spelled × List ℕ
field_at bytes =
    let sign = sign_at bytes in
    let whole = digits_at sign.1 in
    let fraction = fraction_at whole.1 in
    (record { sign = sign.0; whole = whole.0; fraction = fraction.0 }, fraction.1)
