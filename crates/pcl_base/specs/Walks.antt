-- Walks over any nodes: chains of steps to an end, their costs, and tables of numbers that bound them.
use Rattle.std.specs.Prelude.{◌≡◌, ℕ, ◌+◌, ◌≤◌, List, [], ◌∷◌}

-- a walk from a node: steps, each from where the one before leads, to an end
abbrev pub Walk : {N E : Type 0} → (N → E → N → Type 0) → (N → Type 0) → N → List E → Type 0
Walk Leads Ends a [] = Ends a
Walk {N} Leads Ends a (e ∷ es) = (b : N) × Leads a e b × Walk Leads Ends b es

-- what steps cost together
abbrev pub total : {E : Type 0} → (E → ℕ) → List E → ℕ
total cost [] = 0
total cost (e ∷ es) = cost e + total cost es

-- a number for each node: none is above a step's cost and the number where it leads, and it is 0 at an end
pub record IsFeasible {N E : Type 0} (Leads : N → E → N → Type 0) (Ends : N → Type 0) (cost : E → ℕ) (number : N → ℕ) : Type 0 where
  pub steps : (a : N) (e : E) (b : N) → Leads a e b → number a ≤ cost e + number b
  pub ends : (a : N) → Ends a → number a ≡ 0

-- a walk from the node costs this number
abbrev pub IsAttained : {N E : Type 0} → (N → E → N → Type 0) → (N → Type 0) → (E → ℕ) → N → ℕ → Type 0
IsAttained {N} {E} Leads Ends cost a n = (es : List E) × Walk Leads Ends a es × (total cost es ≡ n)

-- the least cost of a walk from the node
pub record IsLeastCost {N E : Type 0} (Leads : N → E → N → Type 0) (Ends : N → Type 0) (cost : E → ℕ) (a : N) (n : ℕ) : Type 0 where
  pub attained : IsAttained Leads Ends cost a n
  pub least : (es : List E) → Walk Leads Ends a es → n ≤ total cost es
