-- The data of a command stand in the job right before what is left after its step.
use Rattle.std.proofs.Common.{◌≡◌, ℕ, ◌-◌, true, false, ◌==◌, if◌then◌else◌, List, [], ◌∷◌, ◌++◌, length, take_at, drop_at, Option, Some, None, Result, Ok, Err, refl, ap, append_assoc, length-append, arith}
use Rattle.pcl_escape.proofs.Names.{Profile, nat_tests, IfSome, Name, Refusal, name_bytes, Prefix, goes_on, is_last, is_letter, may_go_on, name_with_letter, parameter_name, prefix_bytes, field_bytes, parameter_bytes, silent, control, text, two_character, combined, exit, name_with, Said, Reads, step_at, IsPlaced}
use Rattle.pcl_escape.specs.inner.Scan.{start_at}
use Rattle.pcl_escape.proofs.Steps.{Inside, is_middle, is_end, is_wrong, parameter_step}
use Rattle.pcl_escape.proofs.Starts.{Outside, whole_piece, sequence, wrong, start_step}

-- the data of a command, if there is one
abbrev pub data_of : Option Said → List ℕ
data_of None = []
data_of (Some said) = said.bytes

-- the name is the one that its bytes spell
abbrev pub IsTold : Name → Type 0
IsTold name = name_with (name_bytes name) ≡ name

-- what a step reads stands at the end of a front of its bytes
pub record StandsIn (bytes : List ℕ) (reads : Reads) : Type 0 where
  pub front : List ℕ
  pub joined : bytes ≡ front ++ (data_of reads.said ++ reads.rest)
  pub told : IfSome reads.said (λ said. IsTold said.name)

-- the same where a step finds no fault
abbrev pub Stands : List ℕ → Result Reads Refusal → Type 0
Stands bytes (Ok reads) = StandsIn bytes reads
Stands bytes (Err fault) = Unit {0}

-- with more bytes before them
further : (more bytes : List ℕ) (read : Result Reads Refusal) → Stands bytes read → Stands (more ++ bytes) read
further more bytes (Ok reads) s = record { front = more ++ s.front; joined = simp append_assoc (let same = s.joined in cc); told = s.told }
further more bytes (Err fault) s = tt

-- ---- one step

-- the letter of a name is no zero
parameter_told : (prefix : Prefix) (letter : ℕ) → is_letter prefix letter ≡ true → IsTold (parameter_name prefix letter)
parameter_told prefix letter l =
    let upper = if goes_on letter then letter - 32 else letter in
    let some : (upper == 0) ≡ false = grind (arith, nat_tests) in
    elim prefix.group as (λ group. IsTold (name_with_letter prefix.parameterized group upper)) [ None ↦ rw some refl | _ ↦ rw some refl ]

-- inside a sequence
inside_stands : {profile : Profile} {prefix : Prefix} {at : ℕ} {bytes : List ℕ} {read : Result Reads Refusal}
    → Inside profile prefix at bytes read → Stands bytes read
inside_stands {prefix} (is_middle parameter rest is) =
    let goes : may_go_on prefix parameter.letter ≡ true = is.letter in
    record { front = parameter_bytes parameter; joined = refl; told = parameter_told prefix parameter.letter (grind arith) }
inside_stands {prefix} (is_end parameter sent rest is) =
    let last : is_last parameter.letter ≡ true = is.letter in
    record { front = parameter_bytes parameter; joined = refl; told = parameter_told prefix parameter.letter (grind arith) }
inside_stands (is_wrong f) = tt

-- outside sequences
outside_stands : {profile : Profile} {at : ℕ} {bytes : List ℕ} {read : Result Reads Refusal} → Outside profile at bytes read
    → Stands bytes read
outside_stands (whole_piece (silent byte) rest is alone) = record { front = byte ∷ []; joined = refl; told = tt }
outside_stands (whole_piece (control code) rest is alone) = record { front = code ∷ []; joined = refl; told = refl }
outside_stands (whole_piece (text bytes) rest is alone) = record { front = []; joined = refl; told = refl }
outside_stands (whole_piece (two_character byte) rest is alone) = record { front = 27 ∷ byte ∷ []; joined = refl; told = refl }
outside_stands (whole_piece (combined prefix middle end bytes) rest is alone) = absurd alone
outside_stands (whole_piece (exit field lines) rest is alone) =
    record { front = 27 ∷ 37 ∷ (field_bytes field ++ 88 ∷ []); joined = simp append_assoc; told = refl }
outside_stands (sequence prefix bytes read is n inside s) = further (27 ∷ prefix_bytes prefix) bytes read (inside_stands inside)
outside_stands (wrong f) = tt

step_stands : (profile : Profile) (inside : Option Prefix) (at : ℕ) (bytes : List ℕ) → Stands bytes (step_at profile inside at bytes)
unfolding start_at
step_stands profile None at [] = record { front = []; joined = refl; told = tt }
step_stands profile None at (byte ∷ bytes) = outside_stands {at = at} (start_step profile {at = at} {byte = byte} {rest = bytes})
step_stands profile (Some prefix) at bytes = inside_stands (parameter_step profile)

-- ---- in the job

-- the bytes are an end of the job
pub record IsEndOf (job bytes : List ℕ) : Type 0 where
  pub read : List ℕ
  pub joined : job ≡ read ++ bytes

-- where the data of a command stand, if there is one
place_of_data : {job : List ℕ} (before rest : List ℕ) (said : Option Said) → job ≡ before ++ (data_of said ++ rest)
    → IfSome said (λ said. IsTold said.name) → IfSome said (IsPlaced job (length rest))
place_of_data before rest None e t = tt
place_of_data {job} before rest (Some said) e t =
    let whole = simp length-append at (ap length e) in
    let place : length job - length rest - length said.bytes ≡ length before = omega arith in
    record {
      within = omega arith;
      bytes = rw (place, e, drop_at before (said.bytes ++ rest) (length before) refl) (take_at said.bytes rest (length said.bytes) refl);
      name = t;
    }

-- what a step reads of an end of the job, and what is left
pub step_placed : (profile : Profile) {job bytes : List ℕ} (inside : Option Prefix) (at : ℕ) (reads : Reads) → IsEndOf job bytes
    → step_at profile inside at bytes ≡ Ok reads → IfSome reads.said (IsPlaced job (length reads.rest)) × IsEndOf job reads.rest
step_placed profile {job} {bytes} inside at reads is e =
    let s : StandsIn bytes reads = rw e at (step_stands profile inside at bytes) in
    let before = is.read ++ s.front in
    let whole : job ≡ before ++ (data_of reads.said ++ reads.rest) = simp append_assoc (let a = is.joined in let b = s.joined in cc) in
    let left : IsEndOf job reads.rest = record { read = before ++ data_of reads.said; joined = rw append_assoc whole } in
    (place_of_data before reads.rest reads.said whole s.told, left)
