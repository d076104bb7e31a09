-- Bytes that are read as deeds, wherever in a job they stand.
use Rattle.std.proofs.Common.{◌≡◌, ℕ, ◌+◌, ◌*◌, ◌≤◌, true, false, List, [], ◌∷◌, ◌++◌, length, Some, None, Result, Ok, if◌then◌else◌, refl, sym, ap, ◌∙◌, append_assoc, append-nil, arith}
use Rattle.pcl_meaning.proofs.Names.{Profile, Stated, Drivers, Name, PassesChecks, flat_map, AllByRecursion, flat_map-append, nat_tests, Kind, Three, Operation, RasterRow, Absent, Value, takes_data, whole_of, Prefix, may_go_on, is_last, parameter_name, prefix_bytes, Spelled, field_value, in_range, number_of, data_checks, is_exit, Said, Piece, combined, Parameter, parameter_bytes, spelling, IsPrefix, IsMiddle, IsEnd, IsPiece, ArePieces, parameter_commands, first_place, commands_from, commands_of, place_further, IsSpelled}
use Rattle.pcl_base.specs.Operation.{operation_of, has}
use Rattle.pcl_escape.specs.Checks.{parameter_checks}
use Rattle.pcl_meaning.proofs.Deeds.{Deed, deed}

-- ---- commands and deeds

-- performing the command is the deed
abbrev pub IsSaid : Said → Deed → Type 0
IsSaid command deed = (operation_of command.name ≡ Some deed.operation) × (command.value ≡ deed.value) × (command.bytes ≡ deed.bytes)

abbrev pub AreSaid : List Said → List Deed → Type 0
AreSaid [] [] = Unit {0}
AreSaid (command ∷ commands) (deed ∷ deeds) = IsSaid command deed × AreSaid commands deeds
AreSaid commands deeds = ⊥

said_append : (one : List Said) (before : List Deed) (two : List Said) (after : List Deed)
    → AreSaid one before → AreSaid two after → AreSaid (one ++ two) (before ++ after)
said_append [] [] two after a b = b
said_append (command ∷ one) (deed ∷ before) two after a b = (a.0, said_append one before two after a.1 b)
said_append one before two after a b = absurd a

pub said_many : (commands : List Said) (deeds : List Deed) → AreSaid commands deeds → length commands ≡ length deeds
said_many [] [] said = refl
said_many (command ∷ commands) (deed ∷ deeds) said = omega (arith, said_many commands deeds said.1)
said_many commands deeds said = absurd said

-- ---- pieces

-- the bytes are whole pieces by each profile, whose commands are the deeds, whatever stands before them and after them
pub record ReadsAs (bytes : List ℕ) (deeds : List Deed) : Type 0 where
  pub pieces : List Piece
  pub each : (profile : Profile) (beyond : List ℕ) → ArePieces profile pieces beyond
  pub spelled : bytes ≡ flat_map spelling pieces
  pub said : (at : ℕ) → AreSaid (commands_of at pieces) deeds

-- pieces before other pieces are pieces with them
pub pieces_append : (profile : Profile) (one two : List Piece) (beyond : List ℕ)
    → ArePieces profile one (flat_map spelling two ++ beyond) → ArePieces profile two beyond → ArePieces profile (one ++ two) beyond
pieces_append profile [] two beyond a b = b
pieces_append profile (piece ∷ one) two beyond a b =
    let joined = append_assoc (flat_map spelling one) (flat_map spelling two) beyond in
    (rw (flat_map-append spelling one two, joined) a.0, pieces_append profile one two beyond a.1 b)

commands_append : (at : ℕ) (one two : List Piece)
    → commands_of at (one ++ two) ≡ commands_of at one ++ commands_of (at + length (flat_map spelling one)) two
commands_append at [] two = let place : at ≡ at + 0 = omega arith in ap (λ (n : ℕ). commands_of n two) place
commands_append at (piece ∷ one) two =
    let next = at + length (spelling piece) in
    rw (commands_append next one two, place_further at (spelling piece) (flat_map spelling one))
    (sym (append_assoc (commands_from at piece) (commands_of next one) _))

pub reads_joined : {one two : List ℕ} {before after : List Deed} → ReadsAs one before → ReadsAs two after
    → ReadsAs (one ++ two) (before ++ after)
reads_joined {two} {before} {after} a b = record {
  pieces = a.pieces ++ b.pieces;
  each = λ profile beyond.
      pieces_append profile a.pieces b.pieces beyond (a.each profile (flat_map spelling b.pieces ++ beyond)) (b.each profile beyond);
  spelled = rw (flat_map-append spelling a.pieces b.pieces) cc;
  said = λ at.
      rw (commands_append at a.pieces b.pieces)
      (said_append (commands_of at a.pieces) before _ after (a.said at) (b.said (at + length (flat_map spelling a.pieces))));
}

pub reads_none : ReadsAs [] []
reads_none = record { pieces = []; each = λ profile beyond. tt; spelled = refl; said = λ at. tt }

pub reads_piece : (piece : Piece) {deeds : List Deed}
    → ((profile : Profile) (beyond : List ℕ) → IsPiece profile piece beyond) → ((at : ℕ) → AreSaid (commands_from at piece) deeds)
    → ReadsAs (spelling piece) deeds
reads_piece piece {deeds} is said = record {
  pieces = piece ∷ [];
  each = λ profile beyond. (is profile beyond, tt);
  spelled = sym (append-nil (spelling piece));
  said = λ at. rw (append-nil (commands_from at piece)) (said at);
}

-- ---- combined sequences

-- performing the parameter's command is the deed
abbrev pub IsMeant : Prefix → Parameter → List ℕ → Deed → Type 0
IsMeant prefix parameter bytes deed =
    (operation_of (parameter_name prefix parameter.letter) ≡ Some deed.operation)
    × (field_value parameter.field ≡ deed.value) × (bytes ≡ deed.bytes)

-- middle parameters, whose commands are the deeds
abbrev pub AreMeant : Prefix → List Parameter → List Deed → Type 0
AreMeant prefix [] [] = Unit {0}
AreMeant prefix (parameter ∷ middle) (deed ∷ deeds) =
    ((profile : Profile) → IsMiddle profile prefix parameter) × IsMeant prefix parameter [] deed × AreMeant prefix middle deeds
AreMeant prefix middle deeds = ⊥

meant_more : {prefix : Prefix} (middle : List Parameter) (deeds : List Deed) {parameter : Parameter} {deed : Deed}
    → AreMeant prefix middle deeds → ((profile : Profile) → IsMiddle profile prefix parameter) → IsMeant prefix parameter [] deed
    → AreMeant prefix (middle ++ parameter ∷ []) (deeds ++ deed ∷ [])
meant_more [] [] a is m = (is, m, tt)
meant_more (first ∷ middle) (one ∷ deeds) a is m = (a.0, a.1, meant_more middle deeds a.2 is m)
meant_more middle deeds a is m = absurd a

parameters_said : (prefix : Prefix) (middle : List Parameter) (end : Parameter) {bytes : List ℕ} (deeds : List Deed) {last : Deed}
    → AreMeant prefix middle deeds → IsMeant prefix end bytes last → ((profile : Profile) → AllByRecursion (IsMiddle profile prefix) middle)
    × ((at start : ℕ) → AreSaid (parameter_commands prefix at start middle end bytes) (deeds ++ last ∷ []))
parameters_said prefix [] end [] a m = (λ profile. tt, λ at start. (m, tt))
parameters_said prefix (parameter ∷ middle) end (deed ∷ deeds) a m =
    let rest = parameters_said prefix middle end deeds a.2 m in (
      λ profile. (a.0 profile, rest.0 profile),
      λ at start. let beyond = start + length (parameter_bytes parameter) in (a.1, rest.1 beyond beyond),
    )
parameters_said prefix middle end deeds a m = absurd a

-- ---- parameters that are numbers

abbrev pub number_field : List ℕ → Spelled
number_field digits = record { sign = Absent; whole = digits; fraction = None }

abbrev pub number_parameter : List ℕ → ℕ → Parameter
number_parameter digits letter = record { field = number_field digits; letter = letter }

abbrev pub number_value : ℕ → Value
number_value n = record { sign = Absent; parts = n * 10000 }

value_is : (digits : List ℕ) {n : ℕ} → IsSpelled digits n → field_value (number_field digits) ≡ number_value n
value_is digits {n} s = let parts : number_of digits * 10000 + 0 ≡ n * 10000 = omega (arith, s.1) in rw parts refl

pub whole_is : (n : ℕ) → whole_of (number_value n) ≡ n
whole_is n = omega arith

in_range_is : {n : ℕ} → n ≤ 65535 → in_range (number_value n) ≡ true
in_range_is le = grind (arith, nat_tests)

-- a parameter that sets something: its number, in range, and an operation without data, which is no universal exit
pub data IsSetting (prefix : Prefix) (letter : ℕ) (digits : List ℕ) (n : ℕ) (operation : Operation) : Type 0 where
  setting : IsSpelled digits n → n ≤ 65535 → operation_of (parameter_name prefix letter) ≡ Some operation → takes_data operation ≡ false
      → has Stated operation ≡ true → is_exit (parameter_name prefix letter) (field_value (number_field digits)) ≡ false
      → IsSetting prefix letter digits n operation

-- what the stated profile has, each has
in_each : (profile : Profile) (operation : Operation) → has Stated operation ≡ true → has profile operation ≡ true
in_each Stated operation h = h
in_each Drivers operation h = refl

-- the checks of a parameter that is a number in range, of an operation
checks_are : (profile : Profile) (name : Name) (digits : List ℕ) {n : ℕ} {operation : Operation} (letter left : ℕ) {checks : Result ℕ Kind}
    → IsSpelled digits n → n ≤ 65535 → operation_of name ≡ Some operation
    → has Stated operation ≡ true → (if takes_data operation then data_checks letter (number_value n) left else Ok 0) ≡ checks
    → parameter_checks profile name letter (field_value (number_field digits)) left ≡ checks
unfolding parameter_checks
checks_are profile name digits {operation = operation} letter left s small named h e =
    ap (λ (value : Value). parameter_checks profile name letter value left) (value_is digits s)
    ∙ rw (in_range_is small, named, in_each profile operation h) e

-- the bytes are middle parameters of a sequence, whose commands are the deeds
pub record ReadsInside (prefix : Prefix) (bytes : List ℕ) (deeds : List Deed) : Type 0 where
  pub prefix_is : IsPrefix prefix
  pub middle : List Parameter
  pub spelled : bytes ≡ flat_map parameter_bytes middle
  pub meant : AreMeant prefix middle deeds

pub begin_inside : {prefix : Prefix} → IsPrefix prefix → ReadsInside prefix [] []
begin_inside is = record { prefix_is = is; middle = []; spelled = refl; meant = tt }

module _ {prefix : Prefix} {before : List ℕ} {deeds : List Deed} (r : ReadsInside prefix before deeds) {digits : List ℕ} {letter : ℕ} where
  -- a last parameter
  pub end_inside : {bytes : List ℕ} {last : Deed} → ((profile : Profile) → IsEnd profile prefix (number_parameter digits letter) bytes)
      → IsMeant prefix (number_parameter digits letter) bytes last
      → ReadsAs (27 ∷ (prefix_bytes prefix ++ (before ++ (digits ++ letter ∷ bytes)))) (deeds ++ last ∷ [])
  end_inside {bytes} ends m =
      let end = number_parameter digits letter in
      let said = parameters_said prefix r.middle end deeds r.meant m in
      let piece = reads_piece (combined prefix r.middle end bytes) (λ profile beyond. (r.prefix_is, said.0 profile, ends profile))
      (λ at. said.1 at (first_place at prefix)) in
      rw r.spelled (simp (append_assoc, append-nil) at piece)

  -- a setting after which the sequence goes on
  pub set_inside : {n : ℕ} {operation : Operation} → IsSetting prefix letter digits n operation → may_go_on prefix letter ≡ true
      → ReadsInside prefix (before ++ (digits ++ letter ∷ [])) (deeds ++ deed operation (number_value n) [] ∷ [])
  set_inside (setting spelled small named alone known stays) goes =
      let checks : (profile : Profile) → PassesChecks profile prefix (number_parameter digits letter) [] =
      λ profile. checks_are profile _ digits letter 0 spelled small named known (rw alone refl) in
      record {
        prefix_is = r.prefix_is;
        middle = r.middle ++ number_parameter digits letter ∷ [];
        spelled = rw r.spelled (simp (flat_map-append, append_assoc, append-nil));
        meant = meant_more r.middle deeds r.meant (λ profile. record { field = (spelled.0, tt); letter = goes; checks = checks profile })
            (named, value_is digits spelled, refl);
      }

  -- one that ends it
  pub set_last : {n : ℕ} {operation : Operation} → IsSetting prefix letter digits n operation → is_last letter ≡ true
      → ReadsAs (27 ∷ (prefix_bytes prefix ++ (before ++ (digits ++ letter ∷ [])))) (deeds ++ deed operation (number_value n) [] ∷ [])
  set_last (setting spelled small named alone known stays) last =
      let checks : (profile : Profile) → PassesChecks profile prefix (number_parameter digits letter) [] =
      λ profile. checks_are profile _ digits letter 0 spelled small named known (rw alone refl) in
      end_inside (λ profile. record { field = (spelled.0, tt); letter = last; checks = checks profile; stays = stays })
      (named, value_is digits spelled, refl)

-- ---- a row that is sent

abbrev pub row_prefix : Prefix
row_prefix = record { parameterized = 42; group = Some 98 }

row_named : operation_of (Three 42 98 87) ≡ Some RasterRow
unfolding operation_of
row_named = refl

count_checks : (n : ℕ) → data_checks 87 (number_value n) n ≡ Ok n
count_checks n = grind (arith, nat_tests)

pub row_end : {digits bytes : List ℕ} → IsSpelled digits (length bytes) → length bytes ≤ 65535
    → (profile : Profile) → IsEnd profile row_prefix (number_parameter digits 87) bytes
row_end {digits} {bytes} s le profile =
    let checks = checks_are profile _ digits 87 _ s le row_named refl (count_checks (length bytes)) in
    record { field = (s.0, tt); letter = refl; checks = checks; stays = refl }

pub row_meant : (digits : List ℕ) {bytes : List ℕ} → IsSpelled digits (length bytes)
    → IsMeant row_prefix (number_parameter digits 87) bytes (deed RasterRow (number_value (length bytes)) bytes)
row_meant digits s = (row_named, value_is digits s, refl)
