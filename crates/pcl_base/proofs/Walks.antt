-- A feasible number is at most the cost of every walk, so one that a walk attains is the least.
use Rattle.std.proofs.Common.{ℕ, ◌≤◌, List, [], ◌∷◌, arith}
use Rattle.pcl_base.proofs.Names.{Walk, total, IsFeasible, IsAttained, IsLeastCost}

pub feasible_bounds : {N E : Type 0} {Leads : N → E → N → Type 0} {Ends : N → Type 0} {cost : E → ℕ} {number : N → ℕ}
    → IsFeasible Leads Ends cost number → (a : N) (es : List E) → Walk Leads Ends a es → number a ≤ total cost es
feasible_bounds f a [] w = omega (arith, f.ends a w)
feasible_bounds {Leads} {Ends} {cost} {number} f a (e ∷ es) w = omega (arith, f.steps a e w.0 w.1, feasible_bounds f w.0 es w.2)

pub attained_is_least : {N E : Type 0} {Leads : N → E → N → Type 0} {Ends : N → Type 0} {cost : E → ℕ} {number : N → ℕ}
    → IsFeasible Leads Ends cost number → (a : N) → IsAttained Leads Ends cost a (number a) → IsLeastCost Leads Ends cost a (number a)
attained_is_least {Leads} {Ends} {cost} {number} f a walk = record { attained = walk; least = feasible_bounds f a }
