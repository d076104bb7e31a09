-- The checks of a parameter look at the bytes after it only to see whether they are enough.
use Rattle.std.proofs.Common.{◌≡◌, ℕ, ◌≤◌, true, Option, inl, inr, Result, Ok, arith}
use Rattle.pcl_escape.proofs.Names.{Profile, cases_Bool, nat_tests, Name, Kind, Value, Operation, goes_on, in_range, operation_checks, exit_name}
use Rattle.pcl_base.specs.Operation.{operation_of}
use Rattle.pcl_escape.specs.Checks.{parameter_checks}

-- the checks took this many of the bytes that are left; of any that are enough they take as many
pub record Take (checks : ℕ → Result ℕ Kind) (left len : ℕ) : Type 0 where
  pub fits : len ≤ left
  pub again : (more : ℕ) → len ≤ more → checks more ≡ Ok len

-- the checks after the range
operation_takes : (profile : Profile) (operation : Option Operation) (letter : ℕ) (value : Value) {left len : ℕ}
    → operation_checks profile operation letter value left ≡ Ok len → Take (operation_checks profile operation letter value) left len
operation_takes profile operation letter value e = record { fits = grind (arith, nat_tests); again = λ more h. grind (arith, nat_tests) }

-- what the checks of a parameter took, they take of any bytes that are enough
pub checks_take : (profile : Profile) (name : Name) (letter : ℕ) (value : Value) {left len : ℕ}
    → parameter_checks profile name letter value left ≡ Ok len
    → Take (parameter_checks profile name letter value) left len
unfolding parameter_checks
checks_take profile name letter value e = elim (cases_Bool (in_range value)) [
  | inl r ↦ let taken = operation_takes profile (operation_of name) letter value (rw r at e) in
      record { fits = taken.fits; again = λ more h. rw r (taken.again more h) }
  | inr r ↦ absurd (let none = rw r at e in cc)
]

-- ---- after a parameter that isn't the last there are no data

-- the checks after the range, for a letter after which the sequence goes on
operation_on : (profile : Profile) (operation : Option Operation) (letter : ℕ) (value : Value) (left : ℕ) {len : ℕ} → goes_on letter ≡ true
    → operation_checks profile operation letter value left ≡ Ok len → len ≡ 0
operation_on profile operation letter value left g e = grind (arith, nat_tests)

-- a middle parameter that passes the checks takes no bytes
pub none_after : (profile : Profile) (name : Name) (letter : ℕ) (value : Value) (left : ℕ) {len : ℕ} → goes_on letter ≡ true
    → parameter_checks profile name letter value left ≡ Ok len → len ≡ 0
unfolding parameter_checks
none_after profile name letter value left {len} g e =
    grind (arith, operation_on profile (operation_of name) letter value left {len = len} g)

-- ---- a universal exit has no data

pub exit_takes_none : (profile : Profile) (letter : ℕ) (value : Value) (left : ℕ) {len : ℕ}
    → parameter_checks profile exit_name letter value left ≡ Ok len → len ≡ 0
unfolding parameter_checks operation_of
exit_takes_none profile letter value left e = grind arith
