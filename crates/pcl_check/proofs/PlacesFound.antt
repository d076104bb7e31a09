-- The first place of which one of two facts doesn't hold.
use Rattle.std.proofs.Common.{◌≡◌, ℕ, zero, suc, ◌+◌, ◌<◌, ◌≤◌, subst, inl, inr, arith, Some, None}
use Rattle.pcl_check.proofs.Names.{Option, MatchOption, cases_lt, FindsPlace, first_found_place}

-- both facts
abbrev pub And : (ℕ → Type 0) → (ℕ → Type 0) → ℕ → Type 0
And One Other place = One place × Other place

pub finds_both : (One Other : ℕ → Type 0) (last : ℕ) (one other : Option ℕ) → FindsPlace One last one → FindsPlace Other last other
    → FindsPlace (And One Other) last (first_found_place one other)
finds_both One Other last None None a b = λ place le. (a place le, b place le)
finds_both One Other last one other a b = grind arith

-- the first place that is bad by one of four facts
pub first_of_four : (A B C D : ℕ → Type 0) (last : ℕ) (a b c d : Option ℕ) {one other found : Option ℕ} → FindsPlace A last a
    → FindsPlace B last b → FindsPlace C last c → FindsPlace D last d → one ≡ first_found_place a b → other ≡ first_found_place c d
    → found ≡ first_found_place one other → FindsPlace (And (And A B) (And C D)) last found
first_of_four A B C D last a b c d finds_a finds_b finds_c finds_d first second all =
    rw (all, first, second) (finds_both (And A B) (And C D) last (first_found_place a b) (first_found_place c d)
    (finds_both A B last a b finds_a finds_b) (finds_both C D last c d finds_c finds_d))

-- another fact that says the same
pub finds_place_too : (One Other : ℕ → Type 0) {last : ℕ} (found : Option ℕ) → ((place : ℕ) → place ≤ last → One place → Other place)
    → ((place : ℕ) → place ≤ last → Other place → One place) → FindsPlace One last found → FindsPlace Other last found
finds_place_too One Other None to back found = λ place le. to place le (found place le)
finds_place_too One Other (Some bad) to back found = grind (arith, to, back, found.first)

-- ---- found from the end

-- what holds at a place and from the next one on holds from there on
pub from_before : (Good : ℕ → Type 0) {place : ℕ} → Good place → ((k : ℕ) → place + 1 ≤ k → Good k) → (k : ℕ) → place ≤ k → Good k
from_before Good {place} here later k from =
    elim (cases_lt place k) [ inl past ↦ later k (omega arith) | inr at ↦ let same : place ≡ k = omega arith in subst Good same here ]

-- what holds from a place on, and at each place before if at the next one, holds at all places
pub down_to_first : (Good : ℕ → Type 0) (from : ℕ) → ((k : ℕ) → k < from → Good (k + 1) → Good k) → ((k : ℕ) → from ≤ k → Good k)
    → (k : ℕ) → Good k
down_to_first Good zero before good k = good k (omega arith)
down_to_first Good (suc from) before good k =
    down_to_first Good from (λ j lt. before j (omega arith))
    (from_before Good (before from (omega arith) (good (from + 1) (omega arith))) (λ j le. good j (omega arith))) k

-- the first place from one on
pub record IsFirstFrom (Good : ℕ → Type 0) (from last place : ℕ) : Type 0 where
  pub order : from ≤ place
  pub within : place ≤ last
  pub is_bad : Good place → ⊥
  pub first : (before : ℕ) → from ≤ before → before < place → Good before

abbrev pub FindsFrom : (ℕ → Type 0) → ℕ → ℕ → Option ℕ → Type 0
FindsFrom Good from last found = MatchOption found ((place : ℕ) → from ≤ place → place ≤ last → Good place) (IsFirstFrom Good from last)

pub found_good : (Good : ℕ → Type 0) {place : ℕ} (last : ℕ) (found : Option ℕ) → Good place → FindsFrom Good (place + 1) last found
    → FindsFrom Good place last found
found_good Good last None here found = from_before (λ k. k ≤ last → Good k) (λ _. here) found
found_good Good last (Some bad) here found = grind (arith, found.first)

pub found_bad : (Good : ℕ → Type 0) {place last : ℕ} → place ≤ last → (Good place → ⊥) → FindsFrom Good place last (Some place)
found_bad Good within bad = record { order = omega arith; within = within; is_bad = bad; first = λ k from lt. absurd (omega arith) }

-- all places before are good
pub found_all : (Good : ℕ → Type 0) {from : ℕ} (last : ℕ) (found : Option ℕ) → ((k : ℕ) → k < from → Good k)
    → FindsFrom Good from last found → FindsPlace Good last found
found_all Good last None good found = grind (arith, good, found)
found_all Good last (Some bad) good found = grind (arith, good, found.first)
