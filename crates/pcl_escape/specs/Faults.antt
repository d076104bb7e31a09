-- What the first fault of a job is: a front that reads without fault, and what first fails after it.
use Rattle.std.specs.Prelude.{◌≡◌, ℕ, ◌+◌, Bool, true, false, ◌==◌, ◌&&◌, ◌||◌, is_none, IsTrue, IsNone, List, [], ◌∷◌, ◌++◌, length, Option, Some, None, Ok, Err, codes}
use Rattle.std.specs.List.{flat_map, AllByRecursion}
use Rattle.pcl_base.specs.declared.name.Name.TheVariants.{Empty, One}
use Rattle.pcl_base.specs.declared.kind.Kind.{Kind}
use Rattle.pcl_base.specs.declared.kind.Kind.TheVariants.{Truncated, BadSequence, UnsupportedCommand, NotPcl}
use Rattle.pcl_base.specs.declared.profile.Profile.{Profile}
use Rattle.pcl_base.specs.declared.refusal.Refusal.{Refusal}
use Rattle.pcl_base.specs.declared.fault.JobFault.{JobFault}
use Rattle.pcl_base.specs.declared.fault.JobFault.TheVariants.{Refused, Memory}
use Rattle.pcl_escape.specs.declared.step.Prefix.{Prefix}
use Rattle.pcl_base.specs.Operation.{operation_of}
use Rattle.pcl_base.specs.Refusal.{refusal}
use Rattle.pcl_base.specs.Value.{is_absent}
use Rattle.pcl_escape.specs.Letter.{is_silent, is_control, is_two_character, is_parameterized, is_ungrouped, is_group, is_letter, prefix_name, parameter_name, prefix_bytes}
use Rattle.pcl_escape.specs.Field.{Spelled, field_bytes, field_value}
use Rattle.pcl_base.specs.Digits.{is_digit}
use Rattle.pcl_escape.specs.Checks.{parameter_checks, exit_name, exit_letter, is_exit}
use Rattle.pcl_escape.specs.Exit.{joined, IsLine, AreOtherLines, names_language, names_pcl}
use Rattle.pcl_escape.specs.Pieces.{Parameter, Piece, IsField, IsPrefix, IsMiddle, ArePieces, parameter_bytes, spelling, first_place}

-- ---- where a value field stops

-- no digits are there
abbrev pub is_empty : List ℕ → Bool
is_empty [] = true
is_empty (byte ∷ bytes) = false

-- nothing of the field is there yet
abbrev pub is_bare : Spelled → Bool
is_bare field = is_absent field.sign && (is_empty field.whole && is_none field.fraction)

-- the byte would be a part of the field: a digit, its point, or the sign that it begins with
abbrev pub extends : Spelled → ℕ → Bool
extends field byte = is_digit byte || (byte == 46 && is_none field.fraction) || ((byte == 43 || byte == 45) && is_bare field)

-- ---- what fails

-- what first fails in a parameter: it isn't whole, another byte stands in the place of its letter, or a check fails
pub data FailsParameter (profile : Profile) : Prefix → ℕ → List ℕ → Refusal → Type 0 where
  cut : {prefix : Prefix} {at : ℕ} (field : Spelled) → IsField field
      → FailsParameter profile prefix at (field_bytes field) (refusal Truncated at (prefix_name prefix))
  no_letter : {prefix : Prefix} {at : ℕ} (field : Spelled) (byte : ℕ) (bytes : List ℕ)
      → IsField field → extends field byte ≡ false → is_letter prefix byte ≡ false
      → FailsParameter profile prefix at (field_bytes field ++ byte ∷ bytes) (refusal BadSequence at (prefix_name prefix))
  check : {prefix : Prefix} {at : ℕ} (field : Spelled) (letter : ℕ) (bytes : List ℕ) (kind : Kind)
      → IsField field → IsTrue (is_letter prefix letter)
      → parameter_checks profile (parameter_name prefix letter) letter (field_value field) (length bytes) ≡ Err kind
      → FailsParameter profile prefix at (field_bytes field ++ letter ∷ bytes) (refusal kind at (parameter_name prefix letter))

-- the place of the parameter after these: of the first one, the place of ESC
abbrev pub place_after : ℕ → Prefix → List Parameter → ℕ
place_after at prefix [] = at
place_after at prefix (parameter ∷ middle) = first_place at prefix + length (flat_map parameter_bytes (parameter ∷ middle))

-- what stands after ESC and one of ( ) % is no group character
abbrev pub IsUngrouped : Option ℕ → List ℕ → Type 0
IsUngrouped (Some group) bytes = Unit {0}
IsUngrouped None [] = Unit {0}
IsUngrouped None (byte ∷ bytes) = is_group byte ≡ false

-- what first fails in the bytes, which begin at a place outside sequences
pub data Fails (profile : Profile) : ℕ → List ℕ → Refusal → Type 0 where
  unknown_control : {at code : ℕ} {bytes : List ℕ} → IsTrue (is_control code) → is_silent code ≡ false → IsNone (operation_of (One code))
      → Fails profile at (code ∷ bytes) (refusal UnsupportedCommand at (One code))
  lone_escape : {at : ℕ} → Fails profile at (27 ∷ []) (refusal Truncated at Empty)
  no_sequence : {at byte : ℕ} {bytes : List ℕ} → is_two_character byte ≡ false → is_parameterized byte ≡ false
      → Fails profile at (27 ∷ byte ∷ bytes) (refusal BadSequence at Empty)
  unknown_two : {at byte : ℕ} {bytes : List ℕ} → IsTrue (is_two_character byte) → IsNone (operation_of (One byte))
      → Fails profile at (27 ∷ byte ∷ bytes) (refusal UnsupportedCommand at (One byte))
  no_group : {at byte : ℕ} → IsTrue (is_parameterized byte) → is_ungrouped byte ≡ false
      → Fails profile at (27 ∷ byte ∷ []) (refusal Truncated at (One byte))
  bad_group : {at byte group : ℕ} {bytes : List ℕ} → IsTrue (is_parameterized byte) → is_ungrouped byte ≡ false → is_group group ≡ false
      → Fails profile at (27 ∷ byte ∷ group ∷ bytes) (refusal BadSequence at (One byte))
  in_parameter : {at : ℕ} {bytes : List ℕ} {fault : Refusal} (prefix : Prefix) (middle : List Parameter)
      → IsPrefix prefix → IsUngrouped prefix.group bytes → AllByRecursion (IsMiddle profile prefix) middle
      → FailsParameter profile prefix (place_after at prefix middle) bytes fault
      → Fails profile at (27 ∷ (prefix_bytes prefix ++ (flat_map parameter_bytes middle ++ bytes))) fault
  in_line : {at : ℕ} {bytes : List ℕ} (field : Spelled) (lines : List (List ℕ)) (line : List ℕ)
      → IsField field → IsTrue (is_exit exit_name (field_value field))
      → parameter_checks profile exit_name exit_letter (field_value field) 0 ≡ Ok 0
      → AreOtherLines lines (line ++ bytes) → IsLine line bytes → IsTrue (names_language line) → names_pcl line ≡ false
      → Fails profile at (27 ∷ codes "%" ++ field_bytes field ++ exit_letter ∷ (joined lines ++ (line ++ bytes)))
      (refusal NotPcl (at + 3 + length (field_bytes field) + length (joined lines)) exit_name)

-- the first fault of a job by a profile: after a prefix of whole pieces something fails
pub record IsFault (profile : Profile) (job : List ℕ) (fault : Refusal) : Type 0 where
  pub front : List Piece
  pub after : List ℕ
  pub each : ArePieces profile front after
  pub spelled : job ≡ flat_map spelling front ++ after
  pub fails : Fails profile (length (flat_map spelling front)) after fault

-- a fault of a call that reads the job: out of memory is no fault of the job
abbrev pub IsFaultOf : Profile → List ℕ → JobFault → Type 0
IsFaultOf profile job (Refused fault) = IsFault profile job fault
IsFaultOf profile job Memory = Unit {0}
