-- Reading from left to right, as a function: one step after the other, each by the checks in their order.
use Rattle.std.specs.Prelude.{◌≡◌, ℕ, zero, suc, ◌+◌, ◌-◌, ◌≤◌, Bool, false, ◌==◌, if◌then◌else◌, List, [], ◌∷◌, ◌++◌, length, take, drop, Option, Some, None, Result, Ok, Err}
use Rattle.pcl_base.specs.declared.kind.Kind.{Kind}
use Rattle.pcl_base.specs.declared.kind.Kind.TheVariants.{Truncated, BadSequence, UnsupportedCommand, NotPcl}
use Rattle.pcl_base.specs.declared.refusal.Refusal.{Refusal}
use Rattle.pcl_base.specs.declared.fault.JobFault.{JobFault}
use Rattle.pcl_base.specs.declared.fault.JobFault.TheVariants.{Refused, Memory}
use Rattle.pcl_base.specs.declared.name.Name.{Name}
use Rattle.pcl_base.specs.declared.name.Name.TheVariants.{Empty, One}
use Rattle.pcl_base.specs.declared.operation.Operation.{Operation}
use Rattle.pcl_base.specs.declared.profile.Profile.{Profile}
use Rattle.pcl_base.specs.declared.value.Value.{Value}
use Rattle.pcl_base.specs.Name.{name_bytes}
use Rattle.pcl_base.specs.Operation.{operation_of}
use Rattle.pcl_base.specs.Refusal.{refusal}
use Rattle.pcl_base.specs.Value.{zero_value}
use Rattle.pcl_escape.specs.declared.command.Command.{Command}
use Rattle.pcl_escape.specs.declared.step.Prefix.{Prefix}
use Rattle.pcl_escape.specs.declared.step.Progress.{Progress}
use Rattle.std.specs.List.{prefix_len}
use Rattle.pcl_escape.specs.Letter.{is_silent, is_control, is_text, is_two_character, is_parameterized, is_ungrouped, is_group, goes_on, is_letter, prefix_name, parameter_name}
use Rattle.pcl_escape.specs.Field.{Spelled, field_value}
use Rattle.pcl_escape.specs.inner.Fields.{field_at}
use Rattle.pcl_escape.specs.Checks.{parameter_checks, exit_name, is_exit}
use Rattle.pcl_escape.specs.inner.Lines.{lines_at}
use Rattle.pcl_escape.specs.Items.{name_with, bytes_in}
use Rattle.pcl_escape.specs.Said.{Said, view}

-- what a step reads: a command or none, the bytes after it, and the sequence that goes on there
pub record Reads : Type 0 where
  pub said : Option Said
  pub rest : List ℕ
  pub inside : Option Prefix

-- a step that finds a fault
abbrev pub refuse : Kind → ℕ → Name → Result Reads Refusal
refuse kind at name = Err (refusal kind at name)

-- a command without a value and data, where its name is performed
abbrev pub named_by : Option Operation → ℕ → ℕ → List ℕ → Result Reads Refusal
named_by None at code rest = refuse UnsupportedCommand at (One code)
named_by (Some operation) at code rest =
    Ok record { said = Some record { at = at; name = One code; value = zero_value; bytes = [] }; rest = rest; inside = None }

-- a control code or a two-character sequence
unfoldable pub named_at : ℕ → ℕ → List ℕ → Result Reads Refusal
named_at at code rest = named_by (operation_of (One code)) at code rest

-- a run of text
unfoldable pub text_at : ℕ → List ℕ → Result Reads Refusal
text_at at bytes =
    let len = prefix_len is_text bytes in
    let said : Said = record { at = at; name = One 32; value = zero_value; bytes = take len bytes } in
    Ok record { said = Some said; rest = drop len bytes; inside = None }

-- a parameter whose checks are done
abbrev pub checked_at : Prefix → ℕ → ℕ → Value → List ℕ → Result ℕ Kind → Result Reads Refusal
checked_at prefix at letter value bytes (Ok len) =
    Ok record {
      said = Some record { at = at; name = parameter_name prefix letter; value = value; bytes = take len bytes };
      rest = drop len bytes;
      inside = if goes_on letter then Some prefix else None;
    }
checked_at prefix at letter value bytes (Err kind) = refuse kind at (parameter_name prefix letter)

-- the byte after a value field, and then the checks
abbrev pub letter_at : Profile → Prefix → ℕ → Spelled → List ℕ → Result Reads Refusal
letter_at profile prefix at field [] = refuse Truncated at (prefix_name prefix)
letter_at profile prefix at field (letter ∷ bytes) =
    let checks = parameter_checks profile (parameter_name prefix letter) letter (field_value field) (length bytes) in
    if is_letter prefix letter then checked_at prefix at letter (field_value field) bytes checks
    else refuse BadSequence at (prefix_name prefix)

-- a parameter with its data
unfoldable pub parameter_at : Profile → Prefix → ℕ → List ℕ → Result Reads Refusal
parameter_at profile prefix at bytes = let field = field_at bytes in letter_at profile prefix at field.0 field.1

-- the command is a universal exit
abbrev pub leaves : Option Said → Bool
leaves None = false
leaves (Some said) = is_exit said.name said.value

-- a command with these data
abbrev pub with_bytes : List ℕ → Option Said → Option Said
with_bytes bytes None = None
with_bytes bytes (Some said) = Some (record said { bytes = bytes })

-- the bytes before the rest of them
abbrev pub before_rest : List ℕ → List ℕ → List ℕ
before_rest bytes rest = take (length bytes - length rest) bytes

-- an exit before these bytes, by what its lines give: the lines are its data
abbrev pub skipped_by : List ℕ → Option Said → Result (List ℕ) ℕ → Result Reads Refusal
skipped_by bytes said (Ok rest) = Ok record { said = with_bytes (before_rest bytes rest) said; rest = rest; inside = None }
skipped_by bytes said (Err place) = refuse NotPcl place exit_name

-- what was read of this many bytes, which begin at a place, and the lines after it where it is a universal exit
abbrev pub with_lines : ℕ → ℕ → Result Reads Refusal → Result Reads Refusal
with_lines begin len (Ok reads) =
    if leaves reads.said then skipped_by reads.rest reads.said (lines_at (begin + (len - length reads.rest)) reads.rest) else Ok reads
with_lines begin len (Err fault) = Err fault

-- the parameter of a sequence without a group character, which begins at a place
unfoldable pub ungrouped_at : Profile → ℕ → ℕ → List ℕ → Result Reads Refusal
ungrouped_at profile at parameterized bytes =
    with_lines (at + 2) (length bytes) (parameter_at profile (record { parameterized = parameterized; group = None }) at bytes)

-- the group character or none, and the first parameter
unfoldable pub prefix_at : Profile → ℕ → ℕ → List ℕ → Result Reads Refusal
prefix_at profile at parameterized [] = refuse Truncated at (One parameterized)
prefix_at profile at parameterized (group ∷ bytes) =
    if is_group group then parameter_at profile (record { parameterized = parameterized; group = Some group }) at bytes
    else (if is_ungrouped parameterized then ungrouped_at profile at parameterized (group ∷ bytes)
    else refuse BadSequence at (One parameterized))

-- the byte after ESC, and so on
unfoldable pub sequence_at : Profile → ℕ → List ℕ → Result Reads Refusal
sequence_at profile at [] = refuse Truncated at Empty
sequence_at profile at (byte ∷ bytes) =
    if is_two_character byte then named_at at byte bytes
    else (if is_parameterized byte then prefix_at profile at byte bytes else refuse BadSequence at Empty)

-- bytes outside sequences
unfoldable pub start_at : Profile → ℕ → List ℕ → Result Reads Refusal
start_at profile at [] = Ok record { said = None; rest = []; inside = None }
start_at profile at (byte ∷ bytes) =
    if is_silent byte then Ok record { said = None; rest = bytes; inside = None }
    else (if byte == 27 then sequence_at profile at bytes
    else (if is_control byte then named_at at byte bytes else text_at at (byte ∷ bytes)))

-- a step inside a sequence or outside
abbrev pub step_at : Profile → Option Prefix → ℕ → List ℕ → Result Reads Refusal
step_at profile None at bytes = start_at profile at bytes
step_at profile (Some prefix) at bytes = parameter_at profile prefix at bytes

-- ---- a step of the code

-- what a command of the code says, if there is one
abbrev pub said_of : Option Command → Option Said
said_of None = None
said_of (Some command) = Some (view command)

-- what a step of the code read
abbrev pub step_view : Progress → Reads
step_view step = record { said = said_of step.command; rest = step.rest.now; inside = step.inside }

-- what a function returned is what a step reads
abbrev pub GivesReads : Result Progress Refusal → Result Reads Refusal → Type 0
GivesReads (Ok step) reads = reads ≡ Ok (step_view step)
GivesReads (Err refusal) reads = reads ≡ Err refusal

-- ---- all steps

-- one command or none
abbrev pub commands_said : Option Said → List Said
commands_said None = []
commands_said (Some command) = command ∷ []

-- these commands, and then the rest of the reading
abbrev pub with_front : List Said → Result (List Said) Refusal → Result (List Said) Refusal
with_front front (Ok commands) = Ok (front ++ commands)
with_front front (Err fault) = Err fault

-- a step, and the rest of the reading unless it found a fault
abbrev pub and_then : Result Reads Refusal → (Reads → Result (List Said) Refusal) → Result (List Said) Refusal
and_then (Ok reads) go_on = with_front (commands_said reads.said) (go_on reads)
and_then (Err fault) go_on = Err fault

-- what the reading of the bytes gives, in at most this many steps; the bytes begin at a place
unfoldable pub read_outcome : Profile → ℕ → Option Prefix → ℕ → List ℕ → Result (List Said) Refusal
read_outcome profile zero inside at bytes = Ok []
read_outcome profile (suc steps) None at [] = Ok []
read_outcome profile (suc steps) None at (byte ∷ bytes) =
    and_then (step_at profile None at (byte ∷ bytes))
    (λ reads. read_outcome profile steps reads.inside (at + (length (byte ∷ bytes) - length reads.rest)) reads.rest)
read_outcome profile (suc steps) (Some prefix) at bytes =
    and_then (step_at profile (Some prefix) at bytes)
    (λ reads. read_outcome profile steps reads.inside (at + (length bytes - length reads.rest)) reads.rest)

-- each step but the last takes a byte
abbrev pub scan_outcome : Profile → List ℕ → Result (List Said) Refusal
scan_outcome profile job = read_outcome profile (suc (length job)) None 0 job

-- what a function returned is the outcome, with the commands that it gave, unless memory ran out
abbrev pub Yields : Result (Unit {0}) JobFault → List Said → Result (List Said) Refusal → Type 0
Yields (Ok unit) commands read = read ≡ Ok commands
Yields (Err (Refused fault)) commands read = read ≡ Err fault
Yields (Err Memory) commands read = Unit {0}

-- ---- places of the data

-- the data of a command stand in the job right before this many bytes that are left, and its name is known by its bytes
pub record IsPlaced (job : List ℕ) (left : ℕ) (said : Said) : Type 0 where
  pub within : left + length said.bytes ≤ length job
  pub bytes : bytes_in job (length job - left - length said.bytes) (length said.bytes) ≡ said.bytes
  pub name : name_with (name_bytes said.name) ≡ said.name
