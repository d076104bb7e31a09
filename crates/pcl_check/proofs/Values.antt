-- The values at some places.
use Rattle.std.proofs.Common.{◌≡◌, ℕ, zero, suc, ◌+◌, ◌-◌, ◌<◌, ◌≤◌, List, [], ◌∷◌, ◌++◌, length, drop, refl, ap, ◌∙◌, arith, sym}
use Rattle.pcl_check.proofs.Names.{slice_index, append-nil, append_assoc}
use Rattle.pcl_check.specs.inner.EdgePasses.{values}

pub length_values : (value : ℕ → ℕ) (from count : ℕ) → length (values value from count) ≡ count
unfolding values
length_values value from zero = refl
length_values value from (suc count) = ap suc (length_values value (from + 1) count)

pub value_in : (value : ℕ → ℕ) (from count k : ℕ) → k < count → slice_index (values value from count) k ≡ value (from + k)
unfolding values
value_in value from zero k lt = absurd (omega arith)
value_in value from (suc count) zero lt = ap value (omega arith)
value_in value from (suc count) (suc k) lt = value_in value (from + 1) count k (omega arith) ∙ ap value (omega arith)

pub values_joined : (value : ℕ → ℕ) (from one other : ℕ) → values value from (one + other)
    ≡ values value from one ++ values value (from + one) other
unfolding values
values_joined value from zero other = grind arith
values_joined value from (suc one) other =
    let count : suc one + other ≡ suc (one + other) = omega arith in
    let start : from + 1 + one ≡ from + suc one = omega arith in let rest = values_joined value (from + 1) one other in cc

pub values_rest : (value : ℕ → ℕ) (from count : ℕ) → 0 < count → drop 1 (values value from count) ≡ values value (from + 1) (count - 1)
unfolding values
values_rest value from zero some = absurd (omega arith)
values_rest value from (suc count) some = let same : count ≡ suc count - 1 = omega arith in ap (values value (from + 1)) same

pub no_values : (value : ℕ → ℕ) (from : ℕ) {count : ℕ} → count ≡ 0 → values value from count ≡ []
unfolding values
no_values value from none = rw none

-- values appended to others, one after the other
pub put_none : (value : ℕ → ℕ) (before : List ℕ) (from : ℕ) → before ≡ before ++ values value from (from - from)
put_none value before from = rw (no_values value from {count = from - from} (omega arith)) (sym (append-nil before))

pub put_more : (value : ℕ → ℕ) (before : List ℕ) {numbers new : List ℕ} {from place number : ℕ} → from ≤ place
    → numbers ≡ before ++ values value from (place - from) → new ≡ numbers ++ number ∷ [] → number ≡ value place
    → new ≡ before ++ values value from (place + 1 - from)
unfolding values
put_more value before {from = from} {place} {number} order so_far put is =
    let joined = append_assoc before (values value from (place - from)) (number ∷ []) in
    grind (arith, values_joined value from (place - from) 1)
