-- What a step reads outside sequences: a whole piece, the first parameter of a sequence, or a fault.
use Rattle.std.proofs.Common.{◌≡◌, ◌↔◌, ℕ, ◌+◌, ◌-◌, ◌<◌, true, false, ◌==◌, IsTrue, is_some, List, [], ◌∷◌, ◌++◌, length, take, take_at, drop, Option, Some, None, Result, Ok, Err, inl, inr, refl, sym, ap, subst₂, ◌∙◌, append_assoc, length-append, arith}
use Rattle.pcl_escape.proofs.Names.{Profile, eqb-true, cases_Bool, nat_tests, prefix_len, nil_from_length, One, Truncated, UnsupportedCommand, Operation, Refusal, Sign, Absent, operation_of, Prefix, is_silent, is_control, is_text, is_two_character, is_parameterized, is_ungrouped, is_group, is_last, prefix_bytes, Spelled, field_bytes, field_value, is_digit, exit_name, is_exit, parameter_checks, joined, lines_at, Said, Reads, refuse, named_by, before_rest, skipped_by, with_lines, Parameter, Piece, silent, control, text, two_character, combined, exit, IsField, IsPrefix, IsNoText, IsRun, IsPiece, parameter_bytes, parameter_name, spelling, bare_command, Fails, unknown_control, lone_escape, no_sequence, unknown_two, no_group, bad_group, in_line, IsUngrouped, cut, Pass, StopsAt, front_yes, front_split, front_again}
use Rattle.pcl_base.specs.Operation.{text as text_name}
use Rattle.pcl_base.specs.Value.{zero_value}
use Rattle.pcl_escape.specs.inner.Fields.{field_at}
use Rattle.pcl_escape.specs.inner.Scan.{named_at, text_at, ungrouped_at, prefix_at, sequence_at, start_at, parameter_at}
use Rattle.pcl_escape.proofs.Fields.{by_test}
use Rattle.pcl_escape.proofs.Lines.{Lines, skipped, foreign, lines_are, lines_again}
use Rattle.pcl_escape.proofs.Checks.{exit_takes_none}
use Rattle.pcl_escape.proofs.Steps.{Inside, is_middle, is_end, is_wrong, IsLast, Stays, end_reads, parameter_step, grouped_stays, parameter_joined, inside_reads}

-- what a step reads of a whole piece, which gives a command or none
abbrev pub piece_reads : Option Said → List ℕ → Result Reads Refusal
piece_reads said rest = Ok record { said = said; rest = rest; inside = None }

-- what a run of text says, and a universal exit with these lines
abbrev text_command : ℕ → List ℕ → Said
text_command at bytes = record { at = at; name = text_name; value = zero_value; bytes = bytes }

abbrev exit_command : ℕ → Spelled → List (List ℕ) → Said
exit_command at field lines = record { at = at; name = exit_name; value = field_value field; bytes = joined lines }

-- what a piece says that one step reads
abbrev pub says : ℕ → Piece → Option Said
says at (control code) = Some (bare_command at code)
says at (text bytes) = Some (text_command at bytes)
says at (two_character byte) = Some (bare_command at byte)
says at (exit field lines) = Some (exit_command at field lines)
says at other = None

-- one step reads the piece
abbrev pub IsAlone : Piece → Type 0
IsAlone (combined prefix middle end bytes) = ⊥
IsAlone other = Unit {0}

-- what the bytes outside sequences begin with, and what a step reads of them
pub data Outside (profile : Profile) (at : ℕ) : List ℕ → Result Reads Refusal → Type 0 where
  whole_piece : (piece : Piece) (rest : List ℕ) → IsPiece profile piece rest → IsAlone piece
      → Outside profile at (spelling piece ++ rest) (piece_reads (says at piece) rest)
  sequence : (prefix : Prefix) (bytes : List ℕ) (read : Result Reads Refusal) → IsPrefix prefix → IsUngrouped prefix.group bytes
      → Inside profile prefix at bytes read → Stays read → Outside profile at (27 ∷ (prefix_bytes prefix ++ bytes)) read
  wrong : {bytes : List ℕ} {fault : Refusal} → Fails profile at bytes fault → Outside profile at bytes (Err fault)

-- ---- names

-- a name that is performed makes a piece, and any other a fault
named_step : {profile : Profile} {at code : ℕ} {bytes rest : List ℕ} (operation : Option Operation)
    → (is_some operation ≡ true → Outside profile at bytes (piece_reads (Some (bare_command at code)) rest))
    → (is_some operation ≡ false → Outside profile at bytes (refuse UnsupportedCommand at (One code)))
    → Outside profile at bytes (named_by operation at code rest)
named_step None piece fault = fault refl
named_step (Some operation) piece fault = piece refl

-- ---- text

-- where bytes that are text stop, no text goes on, and the other way
no_text : (rest : List ℕ) → StopsAt is_text rest ↔ IsNoText rest
no_text rest = grind arith

-- a run of text
text_run : {profile : Profile} {at byte : ℕ} {rest : List ℕ} → is_text byte ≡ true
    → Outside profile at (byte ∷ rest) (text_at at (byte ∷ rest))
unfolding text_at
text_run {profile} {at} {byte} {rest} t =
    let f = front_split is_text rest in
    let run = take (prefix_len is_text rest) rest in
    let after = drop (prefix_len is_text rest) rest in
    let reads : List ℕ × List ℕ → Result Reads Refusal = λ parts. piece_reads (Some (text_command at parts.0)) parts.1 in
    subst₂ (Outside profile at) (ap (λ (bs : List ℕ). byte ∷ bs) (sym f.joined)) (ap reads (sym (front_yes is_text rest t)))
    (whole_piece (text (byte ∷ run)) after ((t, f.pass), (no_text after).0 f.stops) tt)

-- ---- universal exits

abbrev ungrouped : ℕ → Prefix
ungrouped byte = record { parameterized = byte; group = None }

abbrev exit_parameter : Spelled → Parameter
exit_parameter field = record { field = field; letter = 88 }

-- the bytes of a universal exit with its lines, and what is after them
pub exit_joined : (field : Spelled) (lines rest : List ℕ)
    → (field_bytes field ++ 88 ∷ lines) ++ rest ≡ parameter_bytes (exit_parameter field) ++ (lines ++ rest)
exit_joined field lines rest = simp append_assoc

-- what stands before the rest
pub before_rest_is : (front rest : List ℕ) → before_rest (front ++ rest) rest ≡ front
before_rest_is front rest = take_at front rest (length (front ++ rest) - length rest) (simp length-append (omega arith))

-- an exit without data and the lines after it
exit_lines : {profile : Profile} {at : ℕ} (field : Spelled) {bytes : List ℕ} {read : Result (List ℕ) ℕ} → IsField field
    → is_exit exit_name (field_value field) ≡ true → parameter_checks profile exit_name 88 (field_value field) 0 ≡ Ok 0
    → Lines (at + 3 + length (field_bytes field)) bytes read
    → Outside profile at (27 ∷ 37 ∷ (parameter_bytes (exit_parameter field) ++ bytes))
    (skipped_by bytes (Some (exit_command at field [])) read)
exit_lines field f x e (skipped lines rest each) =
    rw (before_rest_is (joined lines) rest, ← exit_joined field (joined lines) rest)
    (whole_piece (exit field lines) rest (record { field_is = f; leaves = x; checks = e; lines_are = each }) tt)
exit_lines field f x e (foreign lines line rest each ends l p) =
    rw (parameter_joined field 88 (joined lines ++ (line ++ rest))) (wrong (in_line field lines line f x e each ends l p))

-- what a step reads of the bytes of an exit and those after it
exit_reads : (at : ℕ) (field : Spelled) (bytes : List ℕ) → is_exit exit_name (field_value field) ≡ true
    → with_lines (at + 2) (length (parameter_bytes (exit_parameter field) ++ bytes))
    (end_reads (ungrouped 37) at (exit_parameter field) [] bytes)
    ≡ skipped_by bytes (Some (exit_command at field [])) (lines_at (at + 3 + length (field_bytes field)) bytes)
exit_reads at field bytes x =
    let place : (at + 2) + (length (parameter_bytes (exit_parameter field) ++ bytes) - length bytes) ≡ at + 3 + length (field_bytes field) =
    simp length-append (omega arith) in
    rw (x, place) refl

-- a leaving parameter of a sequence without a group character is an exit, which has no data
leave_step : {profile : Profile} {at : ℕ} {field : Spelled} {sent : List ℕ} (rest : List ℕ) {byte letter : ℕ}
    → IsLast profile (ungrouped byte) (record { field = field; letter = letter }) sent
    → is_exit (parameter_name (ungrouped byte) letter) (field_value field) ≡ true
    → Outside profile at (27 ∷ byte ∷ ((field_bytes field ++ letter ∷ []) ++ (sent ++ rest)))
    (with_lines (at + 2) (length ((field_bytes field ++ letter ∷ []) ++ (sent ++ rest)))
    (end_reads (ungrouped byte) at (record { field = field; letter = letter }) sent rest))
leave_step {profile} {at} {field} {sent} rest {byte} {letter} is x =
    let last : is_last letter ≡ true = is.letter in
    let percent_is : byte ≡ 37 = grind (arith, nat_tests) in
    let letter_is : letter ≡ 88 = grind (arith, nat_tests) in
    let leaves = rw (percent_is, letter_is) at x in
    let checks = rw (percent_is, letter_is) at is.checks in
    let none : sent ≡ [] = nil_from_length sent (exit_takes_none profile 88 (field_value field) (length sent) checks) in
    rw (percent_is, letter_is, none, exit_reads at field rest leaves)
    (exit_lines field is.field leaves (rw none at checks) (lines_are _ rest))

-- ---- sequences without a group character

-- what is inside of one
ungrouped_step : {profile : Profile} {at byte : ℕ} {bytes : List ℕ} {read : Result Reads Refusal} → is_ungrouped byte ≡ true
    → IsUngrouped None bytes
    → Inside profile (ungrouped byte) at bytes read → Outside profile at (27 ∷ byte ∷ bytes) (with_lines (at + 2) (length bytes) read)
ungrouped_step u n (is_middle parameter rest m) = absurd (let never = m.letter in cc)
ungrouped_step {byte} {bytes} {read} u n (is_wrong f) = sequence (ungrouped byte) bytes read u n (is_wrong f) tt
ungrouped_step {byte} {bytes} u n (is_end parameter sent rest is) =
    elim (cases_Bool (is_exit (parameter_name (ungrouped byte) parameter.letter) (field_value parameter.field))) [
      | inl x ↦ leave_step rest is x
      | inr stays ↦ rw stays (sequence (ungrouped byte) bytes _ u n (is_end parameter sent rest is) stays)
    ]

-- ---- sequences

-- a sequence, by what stands after its second byte
prefix_step : {profile : Profile} {at byte : ℕ} (rest : List ℕ) → IsTrue (is_parameterized byte)
    → Outside profile at (27 ∷ byte ∷ rest) (prefix_at profile at byte rest)
unfolding prefix_at ungrouped_at
prefix_step {at} {byte} [] p = elim (cases_Bool (is_ungrouped byte)) [
  | inl u ↦ sequence (ungrouped byte) [] (refuse Truncated at (One byte)) u tt
      (is_wrong (cut (record { sign = Absent; whole = []; fraction = None }) (tt, tt))) tt
  | inr u ↦ wrong (no_group p u)
]
prefix_step {profile} {at} {byte} (group ∷ rest) p =
    let prefix : Prefix = record { parameterized = byte; group = Some group } in
    by_test (Outside profile at (27 ∷ byte ∷ group ∷ rest)) (is_group group)
    (λ g. sequence prefix rest (parameter_at profile prefix at rest) (p, g) tt
    (parameter_step profile) (grouped_stays {at = at} refl (parameter_step profile)))
    (λ g. by_test (Outside profile at (27 ∷ byte ∷ group ∷ rest)) (is_ungrouped byte) (λ u. ungrouped_step u g (parameter_step profile))
    (λ u. wrong (bad_group p u g)))

-- a sequence, by its second byte
sequence_step : {profile : Profile} {at : ℕ} (rest : List ℕ) → Outside profile at (27 ∷ rest) (sequence_at profile at rest)
unfolding sequence_at named_at
sequence_step [] = wrong lone_escape
sequence_step {profile} {at} (byte ∷ rest) =
    by_test (Outside profile at (27 ∷ byte ∷ rest)) (is_two_character byte) (λ t. named_step (operation_of (One byte))
    (λ n. whole_piece (two_character byte) rest (t, n) tt) (λ n. wrong (unknown_two t n)))
    (λ t. by_test (Outside profile at (27 ∷ byte ∷ rest)) (is_parameterized byte) (λ p. prefix_step rest p) (λ p. wrong (no_sequence t p)))

-- a step outside sequences reads what the bytes begin with
pub start_step : (profile : Profile) {at byte : ℕ} {rest : List ℕ} → Outside profile at (byte ∷ rest) (start_at profile at (byte ∷ rest))
unfolding start_at named_at
start_step profile {at} {byte} {rest} =
    by_test (Outside profile at (byte ∷ rest)) (is_silent byte) (λ s. whole_piece (silent byte) rest s tt)
    (λ s. by_test (Outside profile at (byte ∷ rest)) (byte == 27) (λ e. rw (eqb-true byte 27 e) (sequence_step rest))
    (λ e. by_test (Outside profile at (byte ∷ rest)) (is_control byte) (λ c. named_step (operation_of (One byte))
    (λ n. whole_piece (control byte) rest (c, s, n) tt) (λ n. wrong (unknown_control c s n)))
    (λ c. text_run (rw (s, c, e) refl))))

-- ---- from the parts to the step

-- a step reads a control code that is performed
named_control : (profile : Profile) {code : ℕ} (at : ℕ) (rest : List ℕ) → IsPiece profile (control code) rest
    → start_at profile at (code ∷ rest) ≡ piece_reads (Some (bare_command at code)) rest
unfolding start_at named_at
named_control profile at rest is = grind (arith, nat_tests)

-- a step reads a two-character sequence that is performed
named_two : (profile : Profile) {byte : ℕ} (at : ℕ) (rest : List ℕ) → IsPiece profile (two_character byte) rest
    → start_at profile at (27 ∷ byte ∷ rest) ≡ piece_reads (Some (bare_command at byte)) rest
unfolding start_at sequence_at named_at
named_two profile at rest is = grind (arith, nat_tests)

-- a step at a parameterized character looks at the group character
at_prefix : (profile : Profile) (at byte : ℕ) (rest : List ℕ) → is_parameterized byte ≡ true
    → start_at profile at (27 ∷ byte ∷ rest) ≡ prefix_at profile at byte rest
unfolding start_at sequence_at
at_prefix profile at byte rest p = grind (arith, nat_tests)

-- a step reads a run of text
text_again : (profile : Profile) {at byte : ℕ} {more rest : List ℕ} → IsRun (byte ∷ more) rest
    → start_at profile at ((byte ∷ more) ++ rest) ≡ piece_reads (Some (text_command at (byte ∷ more))) rest
unfolding start_at text_at
text_again profile {at} {byte} {more} {rest} is =
    let front = front_again is_text (byte ∷ more) rest is.0 ((no_text rest).1 is.1) in
    let text : is_text byte ≡ true = is.0.0 in
    grind (arith, nat_tests, ap (λ (p : List ℕ × List ℕ). p.0) front, ap (λ (p : List ℕ × List ℕ). p.1) front)

-- ---- the first parameter of a sequence

-- a last parameter begins with no group character
pub parts_apart : (sign : Sign) (whole : List ℕ) (fraction : Option (List ℕ)) (letter : ℕ) (rest : List ℕ) → Pass is_digit whole
    → is_last letter ≡ true → IsUngrouped None (field_bytes (record { sign = sign; whole = whole; fraction = fraction }) ++ letter ∷ rest)
parts_apart Absent [] None letter rest d l = grind (arith, nat_tests)
parts_apart Absent (digit ∷ whole) fraction letter rest d l = let is : is_digit digit ≡ true = d.0 in grind (arith, nat_tests)
parts_apart _ _ _ letter rest d l = refl

-- a step reads the parameter of a sequence without a group character, and then lines
ungrouped_again : (profile : Profile) (at parameterized : ℕ) (bytes : List ℕ) → is_ungrouped parameterized ≡ true → IsUngrouped None bytes
    → start_at profile at (27 ∷ parameterized ∷ bytes)
    ≡ with_lines (at + 2) (length bytes) (parameter_at profile (ungrouped parameterized) at bytes)
unfolding prefix_at ungrouped_at parameter_at field_at
ungrouped_again profile at parameterized [] p n = at_prefix profile at parameterized [] (grind (arith, nat_tests))
ungrouped_again profile at parameterized (byte ∷ bytes) p n =
    at_prefix profile at parameterized (byte ∷ bytes) (grind (arith, nat_tests)) ∙ rw (n, p) refl

-- where no universal exit is read, no lines are
no_lines : (begin len : ℕ) (read : Result Reads Refusal) → Stays read → with_lines begin len read ≡ read
no_lines begin len (Ok reads) s = rw s refl
no_lines begin len (Err fault) s = refl

-- a step reads the first parameter as it would inside
pub inside_again : {profile : Profile} (parameterized : ℕ) (group : Option ℕ) {at : ℕ} {bytes : List ℕ} {read : Result Reads Refusal}
    → IsPrefix (record { parameterized = parameterized; group = group }) → IsUngrouped group bytes
    → Inside profile (record { parameterized = parameterized; group = group }) at bytes read → Stays read
    → start_at profile at (27 ∷ (prefix_bytes (record { parameterized = parameterized; group = group }) ++ bytes)) ≡ read
unfolding prefix_at
inside_again {profile} parameterized None {at} {bytes} {read} p n inside s =
    ungrouped_again profile at parameterized bytes p n ∙ rw (inside_reads inside) (no_lines (at + 2) (length bytes) read s)
inside_again {profile} parameterized (Some group) {at} {bytes} p n inside s =
    at_prefix profile at parameterized (group ∷ bytes) p.0 ∙ rw p.1 (inside_reads inside)

-- ---- universal exits

-- a step reads a universal exit and then its lines
pub exit_first : (profile : Profile) (at : ℕ) (field : Spelled) (bytes : List ℕ) {read : Result (List ℕ) ℕ} → IsField field
    → is_exit exit_name (field_value field) ≡ true → parameter_checks profile exit_name 88 (field_value field) 0 ≡ Ok 0
    → Lines (at + 3 + length (field_bytes field)) bytes read
    → start_at profile at (27 ∷ 37 ∷ (parameter_bytes (exit_parameter field) ++ bytes))
    ≡ skipped_by bytes (Some (exit_command at field [])) read
exit_first profile at field bytes f x e lines =
    let last : IsLast profile (ungrouped 37) (exit_parameter field) [] = record { field = f; letter = refl; checks = e } in
    ungrouped_again profile at 37 (parameter_bytes (exit_parameter field) ++ bytes) refl
    (rw (parameter_joined field 88 bytes) (parts_apart field.sign field.whole field.fraction 88 bytes f.0 refl))
    ∙ rw (inside_reads (is_end (exit_parameter field) [] bytes last), exit_reads at field bytes x, lines_again lines) refl

-- ---- whole pieces

-- a step reads the piece
pub piece_step : (profile : Profile) (piece : Piece) (at : ℕ) (rest : List ℕ) → IsPiece profile piece rest → IsAlone piece
    → start_at profile at (spelling piece ++ rest) ≡ piece_reads (says at piece) rest
unfolding start_at
piece_step profile (silent byte) at rest is alone = rw is refl
piece_step profile (control code) at rest is alone = named_control profile at rest is
piece_step profile (text []) at rest is alone = absurd is
piece_step profile (text (byte ∷ more)) at rest is alone = text_again profile is
piece_step profile (two_character byte) at rest is alone = named_two profile at rest is
piece_step profile (combined prefix middle end bytes) at rest is alone = absurd alone
piece_step profile (exit field lines) at rest is alone =
    let first = exit_first profile at field (joined lines ++ rest) is.field_is is.leaves is.checks (skipped lines rest is.lines_are) in
    rw (exit_joined field (joined lines) rest, first, before_rest_is (joined lines) rest) refl

-- which has bytes
pub piece_long : (profile : Profile) (piece : Piece) (rest : List ℕ) → IsPiece profile piece rest → 0 < length (spelling piece)
piece_long profile (text []) rest is = absurd is
piece_long profile piece rest is = omega arith
