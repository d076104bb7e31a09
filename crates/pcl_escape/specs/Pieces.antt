-- What a reading of a job is: the job is cut into whole pieces of the language, and each gives its commands.
use Rattle.std.specs.Prelude.{◌≡◌, ℕ, ◌+◌, false, IsTrue, List, [], ◌∷◌, ◌++◌, length, Option, Some, None, IfSome, IsSome, Ok, codes}
use Rattle.std.specs.List.{flat_map, AllByRecursion}
use Rattle.pcl_base.specs.declared.name.Name.{Name}
use Rattle.pcl_base.specs.declared.name.Name.TheVariants.{One}
use Rattle.pcl_base.specs.declared.profile.Profile.{Profile}
use Rattle.pcl_base.specs.Operation.{operation_of, text as text_name}
use Rattle.pcl_base.specs.Value.{zero_value}
use Rattle.pcl_escape.specs.declared.step.Prefix.{Prefix}
use Rattle.pcl_escape.specs.Letter.{is_silent, is_control, is_text, is_two_character, is_parameterized, is_ungrouped, is_group, may_go_on, is_last, parameter_name, prefix_bytes}
use Rattle.pcl_escape.specs.Field.{Spelled, field_bytes, field_value}
use Rattle.pcl_base.specs.Digits.{AreDigits}
use Rattle.pcl_escape.specs.Checks.{parameter_checks, exit_name, exit_letter, is_exit}
use Rattle.pcl_escape.specs.Exit.{joined, AreLines}
use Rattle.pcl_escape.specs.Said.{Said}

-- ---- pieces and their spellings

-- a parameter: a value field and a parameter byte
pub record Parameter : Type 0 where
  pub field : Spelled
  pub letter : ℕ

-- A text run is as long as text goes. A combined sequence has middle parameters, a last one, and the data after it; one without a group
-- character has no middle ones. A universal exit takes the lines of the job language after it.
pub data Piece : Type 0 where
  silent : ℕ → Piece
  control : ℕ → Piece
  text : List ℕ → Piece
  two_character : ℕ → Piece
  combined : Prefix → List Parameter → Parameter → List ℕ → Piece
  exit : Spelled → List (List ℕ) → Piece

-- a field and its byte
abbrev pub parameter_bytes : Parameter → List ℕ
parameter_bytes parameter = field_bytes parameter.field ++ parameter.letter ∷ []

-- the bytes of a piece
abbrev pub spelling : Piece → List ℕ
spelling (silent byte) = byte ∷ []
spelling (control code) = code ∷ []
spelling (text bytes) = bytes
spelling (two_character byte) = 27 ∷ byte ∷ []
spelling (combined prefix middle end bytes) =
    27 ∷ (prefix_bytes prefix ++ (flat_map parameter_bytes middle ++ (parameter_bytes end ++ bytes)))
spelling (exit field lines) = 27 ∷ codes "%" ++ field_bytes field ++ exit_letter ∷ joined lines

-- ---- what each piece must be

-- a value field has digits on both sides of its point
abbrev pub IsField : Spelled → Type 0
IsField field = AreDigits field.whole × IfSome field.fraction AreDigits

-- a parameterized character and a group character, or one of ( ) % alone
abbrev pub IsPrefixOf : ℕ → Option ℕ → Type 0
IsPrefixOf parameterized None = IsTrue (is_ungrouped parameterized)
IsPrefixOf parameterized (Some group) = IsTrue (is_parameterized parameterized) × IsTrue (is_group group)

-- the bytes after ESC begin a sequence
abbrev pub IsPrefix : Prefix → Type 0
IsPrefix prefix = IsPrefixOf prefix.parameterized prefix.group

-- a parameter that passes the checks with these data after it
abbrev pub PassesChecks : Profile → Prefix → Parameter → List ℕ → Type 0
PassesChecks profile prefix parameter bytes =
    let name = parameter_name prefix parameter.letter in
    parameter_checks profile name parameter.letter (field_value parameter.field) (length bytes) ≡ Ok (length bytes)

-- a parameter after which the sequence goes on has no data
pub record IsMiddle (profile : Profile) (prefix : Prefix) (parameter : Parameter) : Type 0 where
  pub field : IsField parameter.field
  pub letter : IsTrue (may_go_on prefix parameter.letter)
  pub checks : PassesChecks profile prefix parameter []

-- a last parameter with its data, which is no universal exit
pub record IsEnd (profile : Profile) (prefix : Prefix) (parameter : Parameter) (bytes : List ℕ) : Type 0 where
  pub field : IsField parameter.field
  pub letter : IsTrue (is_last parameter.letter)
  pub checks : PassesChecks profile prefix parameter bytes
  pub stays : is_exit (parameter_name prefix parameter.letter) (field_value parameter.field) ≡ false

-- no text goes on there
abbrev pub IsNoText : List ℕ → Type 0
IsNoText [] = Unit {0}
IsNoText (byte ∷ bytes) = is_text byte ≡ false

-- a run of text is there, and ends there
abbrev pub IsRun : List ℕ → List ℕ → Type 0
IsRun [] after = ⊥
IsRun (byte ∷ bytes) after = AllByRecursion (λ byte. IsTrue (is_text byte)) (byte ∷ bytes) × IsNoText after

-- a universal exit, before the bytes that stand after its lines
pub record IsExit (profile : Profile) (field : Spelled) (lines : List (List ℕ)) (after : List ℕ) : Type 0 where
  pub field_is : IsField field
  pub leaves : IsTrue (is_exit exit_name (field_value field))
  pub checks : parameter_checks profile exit_name exit_letter (field_value field) 0 ≡ Ok 0
  pub lines_are : AreLines lines after

-- a piece by a profile, before the bytes that stand after it
abbrev pub IsPiece : Profile → Piece → List ℕ → Type 0
IsPiece profile (silent byte) after = IsTrue (is_silent byte)
IsPiece profile (control code) after = IsTrue (is_control code) × (is_silent code ≡ false) × IsSome (operation_of (One code))
IsPiece profile (text bytes) after = IsRun bytes after
IsPiece profile (two_character byte) after = IsTrue (is_two_character byte) × IsSome (operation_of (One byte))
IsPiece profile (combined prefix middle end bytes) after =
    IsPrefix prefix × AllByRecursion (IsMiddle profile prefix) middle × IsEnd profile prefix end bytes
IsPiece profile (exit field lines) after = IsExit profile field lines after

-- pieces one after the other, and what stands after the last
abbrev pub ArePieces : Profile → List Piece → List ℕ → Type 0
ArePieces profile [] after = Unit {0}
ArePieces profile (piece ∷ pieces) after = IsPiece profile piece (flat_map spelling pieces ++ after) × ArePieces profile pieces after

-- ---- what each piece says

-- a command without a value and data
abbrev pub bare_command : ℕ → ℕ → Said
bare_command at code = record { at = at; name = One code; value = zero_value; bytes = [] }

-- a parameter with its data
abbrev pub command_of : Prefix → ℕ → Parameter → List ℕ → Said
command_of prefix at parameter bytes =
    record { at = at; name = parameter_name prefix parameter.letter; value = field_value parameter.field; bytes = bytes }

-- The parameters begin at the place start. The first command is placed at the place at; a later one at the
-- place right after the parameter before it.
abbrev pub parameter_commands : Prefix → ℕ → ℕ → List Parameter → Parameter → List ℕ → List Said
parameter_commands prefix at start [] end bytes = command_of prefix at end bytes ∷ []
parameter_commands prefix at start (parameter ∷ middle) end bytes =
    let after = start + length (parameter_bytes parameter) in
    command_of prefix at parameter [] ∷ parameter_commands prefix after after middle end bytes

-- where the first parameter of a sequence begins that begins at a place
abbrev pub first_place : ℕ → Prefix → ℕ
first_place at prefix = at + 1 + length (prefix_bytes prefix)

-- the commands of a piece that begins at a place: a universal exit says its value, and its lines one after the other
abbrev pub commands_from : ℕ → Piece → List Said
commands_from at (silent byte) = []
commands_from at (control code) = bare_command at code ∷ []
commands_from at (text bytes) = record { at = at; name = text_name; value = zero_value; bytes = bytes } ∷ []
commands_from at (two_character byte) = bare_command at byte ∷ []
commands_from at (combined prefix middle end bytes) = parameter_commands prefix at (first_place at prefix) middle end bytes
commands_from at (exit field lines) = record { at = at; name = exit_name; value = field_value field; bytes = joined lines } ∷ []

-- the commands of pieces that begin at a place
abbrev pub commands_of : ℕ → List Piece → List Said
commands_of at [] = []
commands_of at (piece ∷ pieces) = commands_from at piece ++ commands_of (at + length (spelling piece)) pieces

-- ---- a reading

-- a reading of a job by a profile: whole pieces from its first byte to its last, and their commands
pub record IsReading (profile : Profile) (job : List ℕ) (commands : List Said) : Type 0 where
  pub pieces : List Piece
  pub each : ArePieces profile pieces []
  pub spelled : job ≡ flat_map spelling pieces
  pub said : commands ≡ commands_of 0 pieces
