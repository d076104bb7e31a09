-- What a step reads inside a sequence: a middle parameter, the last one with its data, or its first fault.
use Rattle.std.proofs.Common.{◌≡◌, ℕ, true, false, ◌&&◌, ◌<◌, is_some, IsTrue, List, [], ◌∷◌, ◌++◌, length, take, drop, Some, None, Result, Ok, Err, refl, sym, ap, subst, ◌∙◌, append_assoc, append-nil, length-append, length-take-le, take-append-drop, take_at, drop_at, arith}
use Rattle.pcl_escape.proofs.Names.{Profile, nat_tests, Kind, Refusal, Prefix, is_last, goes_on, is_letter, parameter_name, Spelled, field_bytes, field_value, field_at, parameter_checks, is_exit, leaves, Value, Reads, letter_at, checked_at, Parameter, IsField, IsMiddle, PassesChecks, parameter_bytes, command_of, FailsParameter, cut, no_letter, check}
use Rattle.pcl_escape.specs.inner.Scan.{parameter_at}
use Rattle.pcl_escape.proofs.Fields.{by_test, FieldStops, field_split, field_again}
use Rattle.pcl_escape.proofs.Checks.{checks_take, none_after}

-- what a step reads of a middle parameter
abbrev pub middle_reads : Prefix → ℕ → Parameter → List ℕ → Result Reads Refusal
middle_reads prefix at parameter rest = Ok record { said = Some (command_of prefix at parameter []); rest = rest; inside = Some prefix }

-- what a step reads of a last parameter and its data
abbrev pub end_reads : Prefix → ℕ → Parameter → List ℕ → List ℕ → Result Reads Refusal
end_reads prefix at parameter bytes rest = Ok record { said = Some (command_of prefix at parameter bytes); rest = rest; inside = None }

-- a last parameter, which may be a universal exit
pub record IsLast (profile : Profile) (prefix : Prefix) (parameter : Parameter) (bytes : List ℕ) : Type 0 where
  pub field : IsField parameter.field
  pub letter : IsTrue (is_last parameter.letter)
  pub checks : PassesChecks profile prefix parameter bytes

-- what the bytes inside a sequence begin with, and what a step reads of them
pub data Inside (profile : Profile) (prefix : Prefix) (at : ℕ) : List ℕ → Result Reads Refusal → Type 0 where
  is_middle : (parameter : Parameter) (rest : List ℕ) → IsMiddle profile prefix parameter
      → Inside profile prefix at (parameter_bytes parameter ++ rest) (middle_reads prefix at parameter rest)
  is_end : (parameter : Parameter) (bytes rest : List ℕ) → IsLast profile prefix parameter bytes
      → Inside profile prefix at (parameter_bytes parameter ++ (bytes ++ rest)) (end_reads prefix at parameter bytes rest)
  is_wrong : {bytes : List ℕ} {fault : Refusal} → FailsParameter profile prefix at bytes fault → Inside profile prefix at bytes (Err fault)

-- what was read is no universal exit
abbrev pub Stays : Result Reads Refusal → Type 0
Stays (Ok reads) = leaves reads.said ≡ false
Stays (Err fault) = Unit {0}

-- ---- from the step to the parts

-- a parameter's bytes and what is after them, split after the field
pub parameter_joined : (field : Spelled) (letter : ℕ) (rest : List ℕ)
    → parameter_bytes (record { field = field; letter = letter }) ++ rest ≡ field_bytes field ++ letter ∷ rest
parameter_joined field letter rest = append_assoc (field_bytes field) (letter ∷ []) rest

-- A letter with its checks: where these pass, one after which the sequence goes on makes a middle parameter, and any other one a last
-- parameter, with its data.
checked_step : {profile : Profile} {prefix : Prefix} {at : ℕ} (field : Spelled) (letter : ℕ) (rest : List ℕ) (checks : Result ℕ Kind)
    → IsField field → IsTrue (is_letter prefix letter)
    → parameter_checks profile (parameter_name prefix letter) letter (field_value field) (length rest) ≡ checks
    → Inside profile prefix at (field_bytes field ++ letter ∷ rest) (checked_at prefix at letter (field_value field) rest checks)
checked_step field letter rest (Err kind) f l e = is_wrong (check field letter rest kind f l e)
checked_step {profile} {prefix} {at} field letter rest (Ok len) f l e =
    let name = parameter_name prefix letter in
    let parameter : Parameter = record { field = field; letter = letter } in
    let taken = checks_take profile name letter (field_value field) e in
    let said = command_of prefix at parameter (take len rest) in
    by_test (λ inside. Inside profile prefix at (field_bytes field ++ letter ∷ rest)
    (Ok record { said = Some said; rest = drop len rest; inside = inside })) (goes_on letter) (λ g.
    let nothing : len ≡ 0 = none_after profile name letter (field_value field) (length rest) g e in
    let passes = rw nothing at (taken.again 0) in
    rw (nothing, ← parameter_joined field letter rest)
    (is_middle parameter rest (record { field = f; letter = grind (arith, nat_tests); checks = passes (omega arith) }))) (λ g.
    let last : is_last letter ≡ true = grind (arith, nat_tests) in
    let checks : PassesChecks profile prefix parameter (take len rest) =
    rw (length-take-le len rest taken.fits) (taken.again len (omega arith)) in
    let joined : parameter_bytes parameter ++ (take len rest ++ drop len rest) ≡ field_bytes field ++ letter ∷ rest =
    rw take-append-drop (parameter_joined field letter rest) in
    rw (← joined) (is_end parameter (take len rest) (drop len rest) (record { field = f; letter = last; checks = checks })))

-- after a field that stops stands a byte, or nothing
after_field : {profile : Profile} {prefix : Prefix} {at : ℕ} (field : Spelled) (rest : List ℕ) → IsField field → FieldStops field rest
    → Inside profile prefix at (field_bytes field ++ rest) (letter_at profile prefix at field rest)
after_field field [] f s = rw append-nil (is_wrong (cut field f))
after_field {profile} {prefix} {at} field (byte ∷ rest) f s =
    by_test (Inside profile prefix at (field_bytes field ++ byte ∷ rest)) (is_letter prefix byte)
    (λ l. checked_step field byte rest (parameter_checks profile (parameter_name prefix byte) byte (field_value field) (length rest))
    f l refl)
    (λ l. is_wrong (no_letter field byte rest f s l))

-- a step reads what the bytes of a parameter begin with
pub parameter_step : (profile : Profile) {prefix : Prefix} {at : ℕ} {bytes : List ℕ}
    → Inside profile prefix at bytes (parameter_at profile prefix at bytes)
unfolding parameter_at
parameter_step profile {prefix} {at} {bytes} =
    let split = field_split in
    subst (λ (bs : List ℕ). Inside profile prefix at bs (letter_at profile prefix at (field_at bytes).0 (field_at bytes).1))
    (sym split.joined)
    (after_field (field_at bytes).0 (field_at bytes).1 split.field split.stops)

-- ---- sequences with a group character

-- no name of three bytes is a universal exit's
three_bytes : (prefix : Prefix) (letter : ℕ) (value : Value) → is_some prefix.group ≡ true
    → is_exit (parameter_name prefix letter) value ≡ false
three_bytes prefix letter value g = grind arith

pub grouped_stays : {profile : Profile} {prefix : Prefix} {at : ℕ} {bytes : List ℕ} {read : Result Reads Refusal}
    → is_some prefix.group ≡ true
    → Inside profile prefix at bytes read → Stays read
grouped_stays {prefix} g (is_middle parameter rest is) = three_bytes prefix parameter.letter (field_value parameter.field) g
grouped_stays {prefix} g (is_end parameter sent rest is) = three_bytes prefix parameter.letter (field_value parameter.field) g
grouped_stays g (is_wrong f) = tt

-- a middle parameter stands after a group character
pub middle_grouped : {profile : Profile} {prefix : Prefix} {parameter : Parameter} → IsMiddle profile prefix parameter
    → is_some prefix.group ≡ true
middle_grouped {prefix} {parameter} m = let goes : (is_some prefix.group && goes_on parameter.letter) ≡ true = m.letter in grind arith

-- ---- each step goes on

-- each step inside a sequence takes a byte
pub inside_shorter : {profile : Profile} {prefix : Prefix} {at : ℕ} {bytes : List ℕ} {reads : Reads}
    → Inside profile prefix at bytes (Ok reads)
    → length reads.rest < length bytes
inside_shorter (is_middle parameter rest is) = simp length-append (omega arith)
inside_shorter (is_end parameter sent rest is) = simp length-append (omega arith)

pub parameter_shorter : (profile : Profile) (prefix : Prefix) (at : ℕ) (bytes : List ℕ) {reads : Reads}
    → parameter_at profile prefix at bytes ≡ Ok reads
    → length reads.rest < length bytes
parameter_shorter profile prefix at bytes e = inside_shorter (rw e at (parameter_step profile {prefix = prefix} {at = at} {bytes = bytes}))

-- ---- from the parts to the step

-- a step reads the field that is spelled
field_after : (profile : Profile) (prefix : Prefix) (at : ℕ) (field : Spelled) (rest : List ℕ) → IsField field → FieldStops field rest
    → parameter_at profile prefix at (field_bytes field ++ rest) ≡ letter_at profile prefix at field rest
unfolding parameter_at
field_after profile prefix at field rest f s = ap (λ (p : Spelled × List ℕ). letter_at profile prefix at p.0 p.1) (field_again f s)

-- a step reads a field and its letter, and then come the checks
checks_after : (profile : Profile) (prefix : Prefix) (at : ℕ) (field : Spelled) (letter : ℕ) (rest : List ℕ) → IsField field
    → IsTrue (is_letter prefix letter)
    → parameter_at profile prefix at (field_bytes field ++ letter ∷ rest) ≡ checked_at prefix at letter (field_value field) rest
    (parameter_checks profile (parameter_name prefix letter) letter (field_value field) (length rest))
checks_after profile prefix at field letter rest f l =
    field_after profile prefix at field (letter ∷ rest) f (grind (arith, nat_tests)) ∙ rw l refl

-- a step reads what the bytes begin with
pub inside_reads : {profile : Profile} {prefix : Prefix} {at : ℕ} {bytes : List ℕ} {read : Result Reads Refusal}
    → Inside profile prefix at bytes read
    → parameter_at profile prefix at bytes ≡ read
inside_reads {profile} {prefix} {at} (is_middle parameter rest m) =
    let letter = parameter.letter in
    let goes : (is_some prefix.group && goes_on letter) ≡ true = m.letter in
    let on : goes_on letter ≡ true = grind arith in
    let again = (checks_take profile (parameter_name prefix letter) letter (field_value parameter.field) m.checks).again (length rest) in
    rw (parameter_joined parameter.field letter, checks_after profile prefix at parameter.field letter rest m.field (grind arith))
    (rw (again (omega arith), on) refl)
inside_reads {profile} {prefix} {at} (is_end parameter bytes rest m) =
    let letter = parameter.letter in
    let last : is_last letter ≡ true = m.letter in
    let stops : goes_on letter ≡ false = grind (arith, nat_tests) in
    let again = (checks_take profile (parameter_name prefix letter) letter
    (field_value parameter.field) m.checks).again (length (bytes ++ rest)) in
    rw (
      parameter_joined parameter.field letter,
      checks_after profile prefix at parameter.field letter (bytes ++ rest)
          m.field (grind arith),
    )
    (rw (again (simp length-append (omega arith)), stops, take_at bytes rest _ refl, drop_at bytes rest _ refl) refl)
inside_reads {profile} {prefix} {at} (is_wrong (cut field f)) = simp append-nil at (field_after profile prefix at field [] f tt)
inside_reads {profile} {prefix} {at} (is_wrong (no_letter field byte rest f s l)) =
    field_after profile prefix at field (byte ∷ rest) f s ∙ rw l refl
inside_reads {profile} {prefix} {at} (is_wrong (check field letter rest kind f l e)) =
    checks_after profile prefix at field letter rest f l ∙ rw e refl
