-- A value field that is read from the left is the field that was spelled there.
use Rattle.std.proofs.Common.{◌≡◌, ℕ, Bool, true, false, ◌||◌, eqb, if◌then◌else◌, List, [], ◌∷◌, ◌++◌, Option, Some, None, refl, ap, subst, append_assoc, arith}
use Rattle.pcl_escape.proofs.Names.{nat_tests, IfSome, is_none, Sign, Spelled, sign_bytes, fraction_bytes, field_bytes, is_digit, AreDigits, sign_at, digits_at, fraction_at, IsField, is_absent, extends, is_bare, is_empty, StopsAt, front_split, front_again}
use Rattle.pcl_escape.specs.inner.Fields.{field_at}

-- ---- digits

-- the bytes don't begin with a digit
abbrev pub NoDigit : List ℕ → Type 0
NoDigit bytes = StopsAt is_digit bytes

-- ---- tests

-- what holds of both outcomes of a test holds of the one that it chooses
pub by_test : {A : Type 0} (P : A → Type 0) (test : Bool) {one other : A} → (test ≡ true → P one) → (test ≡ false → P other)
    → P (if test then one else other)
by_test P true p q = p refl
by_test P false p q = q refl

-- ---- signs

-- the bytes don't begin with a sign
abbrev pub NoSign : List ℕ → Type 0
NoSign [] = Unit {0}
NoSign (byte ∷ bytes) = (eqb byte 43 || eqb byte 45) ≡ false

-- a sign or none at the front, and what is after it
record IsSignFront (bytes : List ℕ) (parts : Sign × List ℕ) : Type 0 where
  joined : bytes ≡ sign_bytes parts.0 ++ parts.1
  stops : is_absent parts.0 ≡ true → NoSign parts.1

-- the sign that is read is the one at the front
sign_split : (bytes : List ℕ) → IsSignFront bytes (sign_at bytes)
sign_split bytes = grind (arith, nat_tests)

-- a sign is read as it is spelled
sign_again : (sign : Sign) (more : List ℕ) → (is_absent sign ≡ true → NoSign more) → sign_at (sign_bytes sign ++ more) ≡ (sign, more)
sign_again sign more n = grind (arith, nat_tests)

-- ---- points

-- the bytes don't begin with a point
abbrev pub NoPoint : List ℕ → Type 0
NoPoint [] = Unit {0}
NoPoint (byte ∷ bytes) = eqb byte 46 ≡ false

-- a point with its digits or none at the front, and what is after it
record IsFractionFront (bytes : List ℕ) (parts : Option (List ℕ) × List ℕ) : Type 0 where
  joined : bytes ≡ fraction_bytes parts.0 ++ parts.1
  digits : IfSome parts.0 AreDigits
  no_point : is_none parts.0 ≡ true → NoPoint parts.1
  no_digit : NoDigit bytes → NoDigit parts.1
  same : is_none parts.0 ≡ true → parts.1 ≡ bytes

-- the fraction that is read is the one at the front
fraction_split : (bytes : List ℕ) → IsFractionFront bytes (fraction_at bytes)
fraction_split [] = record { joined = refl; digits = tt; no_point = λ e. tt; no_digit = λ n. n; same = λ e. refl }
fraction_split (byte ∷ bytes) =
    let d = front_split is_digit bytes in
    grind (arith, nat_tests, d.joined, d.pass, d.stops)

-- a fraction is read as it is spelled
fraction_again : (fraction : Option (List ℕ)) (rest : List ℕ) → IfSome fraction AreDigits → (is_none fraction ≡ true → NoPoint rest)
    → NoDigit rest → fraction_at (fraction_bytes fraction ++ rest) ≡ (fraction, rest)
fraction_again None rest d p n = grind (arith, nat_tests)
fraction_again (Some digits) rest d p n = ap (λ (q : List ℕ × List ℕ). (Some q.0, q.1)) (front_again is_digit digits rest d n)

-- ---- fields

-- the bytes don't go on with the field
abbrev pub FieldStops : Spelled → List ℕ → Type 0
FieldStops field [] = Unit {0}
FieldStops field (byte ∷ bytes) = extends field byte ≡ false

-- a field at the front, and what is after it, where it stops
pub record IsFieldFront (bytes : List ℕ) (parts : Spelled × List ℕ) : Type 0 where
  pub joined : bytes ≡ field_bytes parts.0 ++ parts.1
  pub field : IsField parts.0
  pub stops : FieldStops parts.0 parts.1

-- where nothing more of a field comes, it stops
stops_from : (field : Spelled) (bytes : List ℕ) → NoDigit bytes → (is_none field.fraction ≡ true → NoPoint bytes)
    → (is_absent field.sign ≡ true → is_empty field.whole ≡ true → is_none field.fraction ≡ true → NoSign bytes) → FieldStops field bytes
stops_from field bytes d p s = grind (arith, nat_tests)

-- bytes that are empty
empty_is : (bytes : List ℕ) → is_empty bytes ≡ true → bytes ≡ []
empty_is bytes e = grind arith

-- the field that is read is the one at the front
pub field_split : {bytes : List ℕ} → IsFieldFront bytes (field_at bytes)
unfolding field_at
field_split {bytes} =
    let sign = sign_at bytes in
    let whole = digits_at sign.1 in
    let fraction = fraction_at whole.1 in
    let s = sign_split bytes in
    let w = front_split is_digit sign.1 in
    let f = fraction_split whole.1 in
    record {
      joined = simp append_assoc (cc (s.joined, w.joined, f.joined));
      field = (w.pass, f.digits);
      stops = stops_from (record { sign = sign.0; whole = whole.0; fraction = fraction.0 }) fraction.1 (f.no_digit w.stops) f.no_point
          (λ a e n. subst NoSign (cc (f.same n, w.joined, empty_is whole.0 e)) (s.stops a));
    }

-- ---- the same field again

-- where a field stops: neither a digit, nor its point, nor its sign comes
record Stops (field : Spelled) (rest : List ℕ) : Type 0 where
  no_digit : NoDigit rest
  no_point : is_none field.fraction ≡ true → NoPoint rest
  no_sign : is_bare field ≡ true → NoSign rest

stops_parts : {field : Spelled} (rest : List ℕ) → FieldStops field rest → Stops field rest
stops_parts rest s = grind (arith, nat_tests)

-- no digit comes after the whole digits
no_digit_after : (fraction : Option (List ℕ)) (rest : List ℕ) → NoDigit rest → NoDigit (fraction_bytes fraction ++ rest)
no_digit_after fraction rest n = grind arith

-- no sign comes after an absent one
no_sign_after : (whole : List ℕ) (fraction : Option (List ℕ)) (rest : List ℕ) → AreDigits whole
    → (is_empty whole ≡ true → is_none fraction ≡ true → NoSign rest) → NoSign (whole ++ (fraction_bytes fraction ++ rest))
no_sign_after whole fraction rest d n = grind (arith, nat_tests)

-- a field is read as it is spelled, where it stops
pub field_again : {field : Spelled} {rest : List ℕ} → IsField field → FieldStops field rest
    → field_at (field_bytes field ++ rest) ≡ (field, rest)
unfolding field_at
field_again {field} {rest} f s =
    let p = stops_parts rest s in
    let sign = sign_again field.sign (field.whole ++ (fraction_bytes field.fraction ++ rest))
    (λ a. no_sign_after field.whole field.fraction rest f.0 (λ e n. p.no_sign (rw (a, e, n) refl))) in
    let whole = front_again is_digit field.whole _ f.0 (no_digit_after field.fraction rest p.no_digit) in
    simp (append_assoc, sign, ap (λ (p : List ℕ × List ℕ). p.0) whole, ap (λ (p : List ℕ × List ℕ). p.1) whole)
    (simp (fraction_again field.fraction rest f.1 p.no_point p.no_digit))
