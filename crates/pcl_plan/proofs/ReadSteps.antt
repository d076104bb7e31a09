-- The steps that were read so far, and what comes after them, are a walk of least cost.
use Rattle.std.proofs.Common.{◌≡◌, ℕ, ◌+◌, ◌<◌, ◌≤◌, Bool, true, false, List, [], ◌∷◌, ◌++◌, length, refl, sym, ap, subst, arith, append_assoc}
use Rattle.pcl_plan.proofs.Names.{not, false_from_ne_true, append-nil, Method, Walk, total, RowNumbers, Step, Skip, Switch, Row, Node, Token, start, Leads, Ends, cost, stays_inside, row_after, method_after, least_spelling, row_cost, node_number, outside, inside, rest, IsTokenOf, opened, none_follow, IsBestStep, IsNextNode, AreLeastSteps, node, cost_opening, cost_some}
use Rattle.pcl_plan.specs.Plans.{Spells}
use Rattle.pcl_plan.proofs.LeastTokens.{switch_token, skip_token, row_token, switch_leads, skip_leads, row_leads}
use Rattle.pcl_plan.proofs.Reading.{IsRightTable, opens, ends}

-- ---- the token of a step

-- a token for a step that leads to the node after it
pub record IsNext (width : ℕ) (rows : List (List ℕ)) (number : Node → ℕ) (row : ℕ) (current : Method) (step : Step) (at : Node) : Type
    0 where
  pub token : Token
  pub is_of : (ends : Bool) → (stays_inside step ≡ true → not at.inside ≡ ends) → IsTokenOf step ends token
  pub leads : Leads width rows (node row current true) token at
  pub number_is : inside number row current ≡ cost token + number at
  pub within : at.row ≤ length rows

not_not : (b : Bool) → b ≡ not (not b)
not_not b = grind arith

-- ---- what was read

-- steps that were read up to a node
pub record IsReadTo (width : ℕ) (rows : List (List ℕ)) (table : List RowNumbers) (steps : List Step) (at : Node) : Type 0 where
  pub within : at.row ≤ length rows
  pub inked : 0 < node_number table at → 0 < outside (node_number table) at.row at.method
  pub tokens : List Token
  pub goes_on : (more : List Step) (after : List Token) → (node_number table at ≡ 0 → more ≡ [])
      → (0 < node_number table at → none_follow more ≡ false)
      → Spells at.inside more after → Walk (Leads width rows) (Ends rows) at after → total cost after ≡ node_number table at
      → Spells false (steps ++ more) (tokens ++ after) × Walk (Leads width rows) (Ends rows) start (tokens ++ after)
      × (total cost (tokens ++ after) ≡ node_number table start)

-- at the last step it makes no difference whether a sequence is open
pub spells_any : {one two : Bool} (more : List Step) (after : List Token) → (none_follow more ≡ false → one ≡ two) → Spells one more after
    → Spells two more after
unfolding Spells
spells_any [] after same s = s
spells_any (step ∷ more) after same s = subst (λ (o : Bool). Spells o (step ∷ more) after) (same refl) s

pub opened_more : (is_open : Bool) (token : Token) (tail : List Token) → opened is_open (token ∷ tail) ≡ opened is_open (token ∷ []) ++ tail
opened_more is_open token tail = grind arith

module _ {width : ℕ} {rows : List (List ℕ)} {table : List RowNumbers} (is : IsRightTable width rows table) where
  -- after a step that isn't a row, the number is the lesser one
  rest_is : {row : ℕ} (current : Method) (is_open : Bool) → row ≤ length rows
      → (is_open ≡ true → 0 < outside (node_number table) row current) → (is_open ≡ false → outside (node_number table) row current ≡ 0)
      → rest (node_number table) row current ≡ node_number table (node row current is_open)
  rest_is current is_open within some none = grind (arith, opens is current within, some, none)

  next_number : {row : ℕ} {current : Method} (step : Step) {at : Node} → IsNextNode (node_number table) row current step at
      → stays_inside step ≡ true → at.row ≤ length rows
      → rest (node_number table) (row_after row step) (method_after current step) ≡ node_number table at
  next_number step {at} p stays within =
      rw (← p.row_is, ← p.method_is) (rest_is at.method at.inside within (λ goes. (p.goes_on goes).1) (λ ended. p.ends ended stays))

  next_by : {row : ℕ} {current : Method} {step : Step} {at there : Node} (token : Token) → node at.row at.method at.inside ≡ there
      → at.row ≤ length rows → Leads width rows (node row current true) token there
      → inside (node_number table) row current ≡ cost token + node_number table at
      → ((ends : Bool) → (stays_inside step ≡ true → not at.inside ≡ ends) → IsTokenOf step ends token)
      → IsNext width rows (node_number table) row current step at
  next_by {row} {current} token same within leads number_is is_of = record {
    token = token;
    is_of = is_of;
    leads = subst (Leads width rows (node row current true) token) (sym same) leads;
    number_is = number_is;
    within = within;
  }

  next_is : {row : ℕ} {current : Method} (step : Step) {at : Node} → row ≤ length rows
      → IsBestStep width rows (node_number table) row current step → IsNextNode (node_number table) row current step at
      → IsNext width rows (node_number table) row current step at
  next_is {row} {current} (Skip count) {at} before best p =
      let there : at.row ≤ length rows = omega (arith, p.row_is, best.0.1) in
      let s = skip_leads width rows row current (not at.inside) (omega (arith, is.few)) best.0 in
      next_by (skip_token count (not at.inside)) (cc (p.row_is, p.method_is, not_not at.inside)) there s.0
      (omega (arith, best.1, s.1, next_number (Skip count) p refl there)) (λ ends e. (refl, refl, e refl))
  next_is {row} {current} (Switch next) {at} before best p =
      let there : at.row ≤ length rows = omega (arith, p.row_is, before) in
      let s = switch_leads width rows row current next (not at.inside) in
      next_by (switch_token next (not at.inside)) (cc (p.row_is, p.method_is, not_not at.inside)) there s.0
      (omega (arith, best, s.1, next_number (Switch next) p refl there)) (λ ends e. (refl, refl, e refl))
  next_is {row} {current} (Row bytes) {at} before best p =
      let whole = best.1.attained in
      let s = row_leads width rows row current whole.0 best.0 whole.1 in
      let closed : at.inside ≡ false = false_from_ne_true at.inside (λ goes. cc ((p.goes_on goes).0)) in
      let same : node at.row at.method at.inside ≡ node (row + 1) current false = cc (p.row_is, p.method_is, closed) in
      next_by (row_token whole.0) same (omega (arith, p.row_is, best.0)) s.0
      (omega (arith, best.2, ap (node_number table) same, s.1, ap row_cost whole.2)) (λ ends e. (whole.2, ap least_spelling whole.2))

  -- a sequence is opened where none is open
  opened_walk : {row : ℕ} (current : Method) (is_open : Bool) (tokens : List Token) → row ≤ length rows
      → 0 < outside (node_number table) row current → Walk (Leads width rows) (Ends rows) (node row current true) tokens
      → total cost tokens ≡ inside (node_number table) row current
      → Walk (Leads width rows) (Ends rows) (node row current is_open) (opened is_open tokens)
      × (total cost (opened is_open tokens) ≡ node_number table (node row current is_open))
  opened_walk current true tokens within some w t = (w, t)
  opened_walk {row} current false tokens within some w t =
      ((node row current true, (refl, refl), w), omega (arith, t, cost_opening, opens is current within some))

  inside_below : (row : ℕ) (current : Method) (is_open : Bool) → row ≤ length rows → 0 < outside (node_number table) row current
      → inside (node_number table) row current ≤ node_number table (node row current is_open)
  inside_below row current is_open within some = grind (arith, opens is current within some)

  -- a step that isn't a row ends its sequence where no other follows
  followed : {row : ℕ} {current : Method} {after : Node} {step : Step} {more : List Step} → after.row ≤ length rows
      → IsNextNode (node_number table) row current step after → (node_number table after ≡ 0 → more ≡ [])
      → (0 < node_number table after → none_follow more ≡ false) → stays_inside step ≡ true → not after.inside ≡ none_follow more
  followed {after} within p none some stays =
      let zero = λ (closed : after.inside ≡ false). ap (λ (i : Bool). node_number table (node after.row after.method i)) closed in
      grind (arith, zero, p.ends, none, some, ends is after within)

  pub read_more : {steps : List Step} {at after : Node} {step : Step} → IsReadTo width rows table steps at → 0 < node_number table at
      → IsBestStep width rows (node_number table) at.row at.method step → IsNextNode (node_number table) at.row at.method step after
      → IsReadTo width rows table (steps ++ step ∷ []) after
  unfolding Spells
  read_more {steps} {at} {after} {step} r some best p =
      let next = next_is step r.within best p in
      let zero = λ (closed : after.inside ≡ false). ap (λ (i : Bool). node_number table (node after.row after.method i)) closed in
      record {
        within = next.within;
        inked = λ left. grind (arith, left, p.goes_on, zero);
        tokens = r.tokens ++ opened at.inside (next.token ∷ []);
        goes_on = λ more tail none others spells walk t.
            let f = followed next.within p none others in
            let o = opened_walk at.method at.inside (next.token ∷ tail) r.within (r.inked some) (after, next.leads, walk)
            (omega (arith, t, next.number_is)) in
            let spelled = append_assoc r.tokens (opened at.inside (next.token ∷ [])) tail in
            rw (append_assoc steps (step ∷ []) more, spelled, ← opened_more at.inside next.token tail)
            (r.goes_on (step ∷ more) (opened at.inside (next.token ∷ tail)) (λ zero. absurd (omega (arith, zero, some))) (λ _. refl)
            (next.token, tail, next.is_of (none_follow more) f, refl, spells_any more tail (λ others. grind (arith, f, p.goes_on)) spells)
            o.0 o.1);
      }

  -- the measure of reading
  pub read_less : {steps : List Step} {at after : Node} {step : Step} → IsReadTo width rows table steps at → 0 < node_number table at
      → IsBestStep width rows (node_number table) at.row at.method step → IsNextNode (node_number table) at.row at.method step after
      → node_number table after < node_number table at
  read_less {at} {step} r some best p =
      let next = next_is step r.within best p in
      omega (arith, next.number_is, cost_some next.token, inside_below at.row at.method at.inside r.within (r.inked some))

  pub read_all : {steps : List Step} {at : Node} → IsReadTo width rows table steps at → node_number table at ≡ 0
      → AreLeastSteps width rows (node_number table) steps
  unfolding Spells
  read_all {steps} {at} r none =
      let g = r.goes_on [] [] (λ _. refl) (λ some. absurd (omega (arith, none, some))) refl (ends is at r.within none) (sym none) in
      record { tokens = r.tokens ++ []; spelled = rw (append-nil steps) at g.0; walk = g.1; total_is = g.2 }
