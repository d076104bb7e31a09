-- What holds of every walk of least cost.
use Rattle.std.proofs.Common.{◌≡◌, ℕ, ◌+◌, ◌-◌, ◌*◌, ◌≤◌, Bool, true, false, List, [], ◌∷◌, length, ap, subst, arith}
use Rattle.pcl_plan.proofs.Names.{not, Method, IsLeastLength, Walk, total, IsFeasible, feasible_bounds, Token, opening, method, skip, send, command_count, Node, row_at, row_above, Leads, Ends, cost, switching, node, rest_below}
use Rattle.pcl_plan.proofs.LeastTokens.{switch_below, row_is_least, switch_costs, row_costs}

-- The commands of a walk of least cost: two for each row that is left at most, and one more; not that one after a switch.
pub record AreFewCommands (rows : List (List ℕ)) (number : Node → ℕ) (a : Node) (tokens : List Token) : Type 0 where
  pub bound : command_count tokens ≤ 2 * (length rows - a.row) + 1
  pub after_switch : (first : Method) → switching a.method + number a ≤ number (node a.row first true)
      → command_count tokens ≤ 2 * (length rows - a.row)

module _ (width : ℕ) {rows : List (List ℕ)} {number : Node → ℕ} (feasible : IsFeasible (Leads width rows) (Ends rows) cost number) where
  -- a token with which a walk of least cost begins costs just what the number falls by, and what follows is of least cost
  pub step_is_least : (a : Node) {b c : Node} (token : Token) (rest : List Token) → Leads width rows a token b → b ≡ c
      → Walk (Leads width rows) (Ends rows) b rest → total cost (token ∷ rest) ≡ number a
      → (number a ≡ cost token + number c) × Walk (Leads width rows) (Ends rows) c rest × (total cost rest ≡ number c)
  step_is_least a {b} token rest l there w t =
      let below = feasible_bounds feasible b rest w in
      let step = feasible.steps a token b l in
      let same = ap number there in (omega arith, subst (λ (n : Node). Walk (Leads width rows) (Ends rows) n rest) there w, omega arith)

  pub few_commands : length rows ≤ 9999 → (tokens : List Token) {row : ℕ} {current : Method} (is_open : Bool)
      → Walk (Leads width rows) (Ends rows) (node row current is_open) tokens → total cost tokens ≡ number (node row current is_open)
      → AreFewCommands rows number (node row current is_open) tokens
  few_commands few [] is_open w t = record { bound = omega arith; after_switch = λ first h. omega arith }
  few_commands few (opening ∷ tokens) {row} {current} is_open w t =
      let s = step_is_least (node row current is_open) opening tokens w.1 w.1.1 w.2 t in
      let r = few_commands few tokens true s.1 s.2 in
      record { bound = omega (arith, r.bound); after_switch = λ first h. omega (arith, r.after_switch first (omega (arith, s.0, h))) }
  few_commands few (method digits next ends ∷ tokens) false w t = absurd (cc w.1.0)
  few_commands few (method digits next ends ∷ tokens) {row} {current} true w t =
      let s = step_is_least (node row current true) (method digits next ends) tokens w.1 w.1.2 w.2 t in
      let costs = switch_costs width rows (node row current true) w.0 digits next ends w.1 in
      let r = few_commands few tokens (not ends) s.1 s.2 in
      let after = rest_below number row next (not ends) in
      record {
        bound = omega (arith, r.after_switch current (omega (arith, s.0, costs)));
        -- where a switch was taken first, no other one can follow
        after_switch = λ first h.
            let below = switch_below width rows number row first (feasible.steps (node row first true)) next in absurd (omega (arith, s.0));
      }
  few_commands few (skip digits count ends ∷ tokens) {row} {current} is_open w t =
      let s = step_is_least (node row current is_open) (skip digits count ends) tokens w.1 w.1.5 w.2 t in
      let r = few_commands few tokens (not ends) s.1 s.2 in
      record { bound = omega (arith, r.bound, w.1.2, w.1.3); after_switch = λ first h. omega (arith, r.bound, w.1.2, w.1.3) }
  few_commands few (send digits bytes ∷ tokens) {row} {current} is_open w t =
      let s = step_is_least (node row current is_open) (send digits bytes) tokens w.1 w.1.4 w.2 t in
      let r = few_commands few tokens false s.1 s.2 in
      record { bound = omega (arith, r.bound, w.1.2); after_switch = λ first h. omega (arith, r.bound, w.1.2) }

  -- a row that a walk of least cost sends has data of least length
  pub sent_is_least : (row : ℕ) (current : Method) (b : Node) (digits bytes : List ℕ) (rest : List Token)
      → Leads width rows (node row current true) (send digits bytes) b → Walk (Leads width rows) (Ends rows) b rest
      → total cost (send digits bytes ∷ rest) ≡ number (node row current true)
      → IsLeastLength current (row_above width rows row) (row_at rows row) (length bytes)
  sent_is_least row current b digits bytes rest l w t =
      let s = step_is_least (node row current true) (send digits bytes) rest l l.4 w t in
      row_is_least width rows number row current (feasible.steps (node row current true)) bytes l.2 l.3
      (omega (arith, s.0, row_costs width rows (node row current true) b digits bytes l))
