-- Value fields: a sign, digits, and a point with digits; each may be missing.
use Rattle.std.specs.Prelude.{ℕ, ◌+◌, ◌*◌, ◌-◌, Bool, nat_le, List, [], ◌++◌, slice_index, Option, Some, None, codes}
use Rattle.std.specs.Borrow.{Bor}
use Rattle.pcl_base.specs.Digits.{number_of}
use Rattle.pcl_base.specs.declared.value.Sign.{Sign}
use Rattle.pcl_base.specs.declared.value.Sign.TheVariants.{Absent, Plus, Minus}
use Rattle.pcl_base.specs.declared.value.Value.{Value}
use Rattle.pcl_escape.specs.declared.field.Field.{Field}

-- a field as it is spelled
pub record Spelled : Type 0 where
  pub sign : Sign
  pub whole : List ℕ
  pub fraction : Option (List ℕ)

-- ---- how a field is spelled

-- a sign, or nothing
abbrev pub sign_bytes : Sign → List ℕ
sign_bytes Absent = []
sign_bytes Plus = codes "+"
sign_bytes Minus = codes "-"

-- a point with digits, or nothing
abbrev pub fraction_bytes : Option (List ℕ) → List ℕ
fraction_bytes None = []
fraction_bytes (Some digits) = codes "." ++ digits

-- the three one after the other
abbrev pub field_bytes : Spelled → List ℕ
field_bytes field = sign_bytes field.sign ++ field.whole ++ fraction_bytes field.fraction

-- ---- what it says

-- a digit's number, 0 past the end
abbrev pub digit_at : List ℕ → ℕ → ℕ
digit_at digits place = slice_index digits place - 48

-- four decimals are kept, further ones dropped
abbrev pub ten_thousandths : List ℕ → ℕ
ten_thousandths digits = 1000 * digit_at digits 0 + 100 * digit_at digits 1 + 10 * digit_at digits 2 + digit_at digits 3

-- a missing fraction is 0
abbrev pub fraction_parts : Option (List ℕ) → ℕ
fraction_parts None = 0
fraction_parts (Some digits) = ten_thousandths digits

-- the value in ten-thousandths, with the sign as written
abbrev pub field_value : Spelled → Value
field_value field = record { sign = field.sign; parts = number_of field.whole * 10000 + fraction_parts field.fraction }

-- at most 65535, and with a minus sign at most 32767
abbrev pub greatest_parts : Sign → ℕ
greatest_parts Absent = 65535 * 10000
greatest_parts Plus = 65535 * 10000
greatest_parts Minus = 32767 * 10000

-- the magnitude is at most that
abbrev pub in_range : Value → Bool
in_range value = nat_le value.parts (greatest_parts value.sign)

-- ---- a field of the code

-- the digits of a slice
abbrev pub digits_of : Option (Bor (List ℕ)) → Option (List ℕ)
digits_of None = None
digits_of (Some digits) = Some digits.now

-- the field as it is spelled
abbrev pub spelled : Field → Spelled
spelled field = record { sign = field.sign; whole = field.whole.now; fraction = digits_of field.fraction }
