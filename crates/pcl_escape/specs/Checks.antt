-- The checks of a parameter whose shape is right, in their order: the range of its value, its name, its data.
use Rattle.std.specs.Prelude.{ℕ, Bool, ◌==◌, ◌&&◌, nat_lt, if◌then◌else◌, Option, Some, None, Result, Ok, Err, codes}
use Rattle.pcl_base.specs.declared.name.Name.{Name}
use Rattle.pcl_base.specs.declared.kind.Kind.{Kind}
use Rattle.pcl_base.specs.declared.kind.Kind.TheVariants.{Truncated, BadSequence, ValueRange, UnsupportedCommand}
use Rattle.pcl_base.specs.declared.operation.Operation.{Operation}
use Rattle.pcl_base.specs.declared.profile.Profile.{Profile}
use Rattle.pcl_base.specs.declared.value.Value.{Value}
use Rattle.pcl_base.specs.Operation.{named, operation_of, takes_data, has, is_name}
use Rattle.pcl_base.specs.Value.{whole_of, is_exit_number, is_below_zero}
use Rattle.pcl_escape.specs.Letter.{goes_on}
use Rattle.pcl_escape.specs.Field.{in_range}

-- as many bytes as the whole part says, which only a last parameter can have; left is how many there are
abbrev pub data_checks : ℕ → Value → ℕ → Result ℕ Kind
data_checks letter value left =
    if is_below_zero value then Err ValueRange
    else (if whole_of value == 0 then Ok 0
    else (if goes_on letter then Err BadSequence
    else (if nat_lt left (whole_of value) then Err Truncated else Ok (whole_of value))))

-- a name that the profile has, and then its data
abbrev pub operation_checks : Profile → Option Operation → ℕ → Value → ℕ → Result ℕ Kind
operation_checks profile None letter value left = Err UnsupportedCommand
operation_checks profile (Some operation) letter value left =
    if has profile operation then (if takes_data operation then data_checks letter value left else Ok 0) else Err UnsupportedCommand

-- the count of the data bytes of a parameter, or the kind of the first check that fails
unfoldable pub parameter_checks : Profile → Name → ℕ → Value → ℕ → Result ℕ Kind
parameter_checks profile name letter value left =
    if in_range value then operation_checks profile (operation_of name) letter value left else Err ValueRange

-- ---- the universal exit

-- its name
abbrev pub exit_name : Name
exit_name = named (codes "%X")

-- its parameter byte, X
abbrev pub exit_letter : ℕ
exit_letter = 88

-- whether the command is a universal exit, after which lines of the job language are skipped
abbrev pub is_exit : Name → Value → Bool
is_exit name value = is_name exit_name name && is_exit_number value
