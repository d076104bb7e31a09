-- Steps of the reader, from the contracts of what it calls.
use Rattle.std.proofs.Common.{◌≡◌, ℕ, ◌+◌, ◌<◌, ◌⊎◌, ◌==◌, Bool, true, false, List, ◌∷◌, length, Some, inl, inr, sym, ap, arith}
use Rattle.pcl_check.proofs.Names.{not, length-append, nat_tests, Method, Dpi, Size, method_code, method_with_code, Picture, Place, Parameter, LeftOver, IsParameter, GivesRows, left_at}
use Rattle.pcl_check.proofs.Fronts.{letter_code, left_over, Told}

pub told : (picture : Picture) (size : Size) (above : List ℕ) (place : Place) (parameter : Parameter) → place.inside ≡ true
    → IsParameter place.text.now parameter
    → Told (left_at size picture.dpi place above) parameter.digits.now parameter.letter parameter.rest.now
told picture size above place parameter inside is =
    record { inside = inside; are_digits = is.are_digits; no_digit = is.no_digit; text = is.spelled }

pub shorter : (text : List ℕ) (parameter : Parameter) → IsParameter text parameter → length parameter.rest.now < length text
shorter text parameter is = omega (arith, ap length is.spelled, length-append parameter.digits.now (parameter.letter ∷ parameter.rest.now))

-- a letter with its case
pub cased : {capital byte : ℕ} → (byte ≡ capital) ⊎ (byte ≡ capital + 32) → (ends : Bool) × (byte ≡ letter_code capital ends)
    × ((byte == capital + 32) ≡ not ends)
cased (inl e) = (true, e, grind (arith, nat_tests))
cased (inr e) = (false, e, grind (arith, nat_tests))

-- ---- methods

pub of_code : (number : ℕ) {m : Method} → method_with_code number ≡ Some m → number ≡ method_code m
of_code number {m} e = grind (arith, nat_tests)

-- ---- rows that are skipped

pub becomes_to : {size : Size} {dpi : Dpi} {old : LeftOver} {given : List (List ℕ)} {inside outcome : Bool} {current : Method}
    {above below : List ℕ} {rows left : ℕ} {text : List ℕ} → inside ≡ outcome → above ≡ below → rows ≡ left
    → GivesRows size dpi old given (left_over inside current above rows text)
    → GivesRows size dpi old given (left_over outcome current below left text)
becomes_to i a r b = rw (sym i, sym a, sym r) b
