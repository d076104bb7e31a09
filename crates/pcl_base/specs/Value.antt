-- The number of a value field: a sign as written, and a magnitude in ten-thousandths.
use Rattle.std.specs.Prelude.{ℕ, ◌*◌, ◌/◌, Bool, true, false, ◌&&◌, ◌==◌, nat_lt, if◌then◌else◌, Option, Some, None, ℤ, pos, neg_ℤ}
use Rattle.pcl_base.specs.declared.value.Sign.{Sign}
use Rattle.pcl_base.specs.declared.value.Sign.TheVariants.{Absent, Plus, Minus}
use Rattle.pcl_base.specs.declared.value.Value.{Value}

-- a magnitude as a whole number with its sign: no sign means plus
abbrev pub with_sign : Sign → ℕ → ℤ
with_sign Absent n = pos n
with_sign Plus n = pos n
with_sign Minus n = neg_ℤ (pos n)

-- the magnitude rounded down
abbrev pub whole_of : Value → ℕ
whole_of v = v.parts / 10000

-- the same with its sign: the whole part of -0.5 is 0
abbrev pub signed_whole : Value → ℤ
signed_whole v = with_sign v.sign (whole_of v)

-- the value of a command without a field
abbrev pub zero_value : Value
zero_value = record { sign = Absent; parts = 0 }

abbrev pub is_absent : Sign → Bool
is_absent Absent = true
is_absent Plus = false
is_absent Minus = false

-- a minus sign stands before the number
abbrev pub is_minus : Sign → Bool
is_minus Absent = false
is_minus Plus = false
is_minus Minus = true

-- the whole part is below 0
abbrev pub is_below_zero : Value → Bool
is_below_zero v = is_minus v.sign && nat_lt 0 (whole_of v)

-- the number of a universal exit: its whole part is -12345
abbrev pub is_exit_number : Value → Bool
is_exit_number v = is_minus v.sign && whole_of v == 12345

-- the whole part where it isn't below 0
abbrev pub count_of : Value → Option ℕ
count_of v = if is_below_zero v then None else Some (whole_of v)

-- the magnitude times a number, rounded down
abbrev pub scaled_by : ℕ → Value → ℕ
scaled_by k v = v.parts * k / 10000
