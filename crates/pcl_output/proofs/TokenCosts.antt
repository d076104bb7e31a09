-- What tokens cost, and the lesser of two numbers.
use Rattle.std.proofs.Common.{◌≡◌, ℕ, ◌+◌, ◌<◌, ◌≤◌, Bool, true, false, List, ◌∷◌, length, refl, inl, inr, arith}
use Rattle.pcl_output.proofs.Names.{not, cases_lt, length-append, Method, method_code, Node, Token, opening, method, skip, send, letter, IsSpelled, cost, least_spelling, row_cost, outside, inside, rest}
use Rattle.pcl_output.specs.Spelling.{digit_count}
use Rattle.pcl_output.proofs.DigitCounts.{count_le, least_spelled}
use Rattle.pcl_output.proofs.Walking.{node}

-- ---- tokens

pub cost_opening : cost opening ≡ 3
cost_opening = refl

pub cost_method : (digits : List ℕ) (next : Method) (ends : Bool) → cost (method digits next ends) ≡ length digits + 1
cost_method digits next ends = grind (arith, length-append digits (letter 77 ends))

pub cost_skip : (digits : List ℕ) (count : ℕ) (ends : Bool) → cost (skip digits count ends) ≡ length digits + 1
cost_skip digits count ends = grind (arith, length-append digits (letter 89 ends))

pub cost_send : (digits bytes : List ℕ) → cost (send digits bytes) ≡ length digits + 1 + length bytes
cost_send digits bytes = omega (arith, length-append digits (87 ∷ bytes))

pub cost_some : (token : Token) → 0 < cost token
cost_some opening = omega (arith, cost_opening)
cost_some (method digits next ends) = omega (arith, cost_method digits next ends)
cost_some (skip digits count ends) = omega (arith, cost_skip digits count ends)
cost_some (send digits bytes) = omega (arith, cost_send digits bytes)

pub method_small : (next : Method) → method_code next < 4
method_small next = grind arith

pub row_cost_small : (bytes : ℕ) → bytes ≤ 65535 → row_cost bytes ≤ 65541
row_cost_small bytes small = omega (arith, count_le 5 bytes (omega arith) (omega arith))

pub spelled_cost : (n : ℕ) → n ≤ 65535 → IsSpelled (least_spelling n) n × (length (least_spelling n) ≡ digit_count n)
unfolding digit_count
spelled_cost n small = (least_spelled n (omega arith), refl)

-- ---- numbers

pub rest_below : (number : Node → ℕ) (row : ℕ) (current : Method) (is_open : Bool)
    → rest number row current ≤ number (node row current is_open)
rest_below number row current is_open = grind arith

-- a parameter that ends its sequence or doesn't, and then costs the least
pub best_end : (number : Node → ℕ) (row : ℕ) (current : Method) → (ends : Bool)
    × (rest number row current ≡ number (node row current (not ends)))
best_end number row current =
    elim (cases_lt (outside number row current) (inside number row current)) [
      | inl ends ↦ (true, omega arith)
      | inr stays ↦ (false, omega arith)
    ]
