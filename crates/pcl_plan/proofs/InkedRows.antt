-- The numbers after some rows are right where ink is left.
use Rattle.std.proofs.Common.{◌≡◌, ℕ, zero, suc, ◌+◌, ◌-◌, ◌*◌, ◌<◌, ◌≤◌, Bool, true, false, List, [], ◌∷◌, length, drop, refl, ap, subst, inl, inr, arith}
use Rattle.pcl_plan.proofs.Names.{not, drop_more, Method, length_small, IsAttained, RowNumbers, Token, opening, method, skip, send, AreWhite, Node, Leads, Ends, cost, switching, row_cost, number_in, outside, inside, rest, IsSwitched, skipping, IsDirect, IsRowRight, AreSkippable, count_grows, node, cost_opening, rest_below, best_end, row_cost_small}
use Rattle.pcl_plan.proofs.LeastTokens.{switch_token, skip_token, row_token, switch_leads, skip_leads, row_leads, switch_below, skip_below, switch_costs, skip_costs, row_costs}
use Rattle.pcl_plan.proofs.RightRows.{at_row}

-- the numbers of a row that isn't in white rest, by what comes with no switch before it
pub record IsInkedRow (width : ℕ) (rows : List (List ℕ)) (number : Node → ℕ) (row : ℕ) : Type 0 where
  pub direct : Method → ℕ
  pub numbers : RowNumbers
  pub inside_page : row < length rows
  pub few : length rows ≤ 65535
  pub inked : AreWhite (drop row rows) → ⊥
  pub placed : (current : Method) (is_open : Bool) → number (node row current is_open) ≡ number_in numbers current is_open
  pub switched : IsSwitched direct numbers
  pub are_direct : (current : Method) → IsDirect width rows number row current (direct current)
  pub later : (after : ℕ) → row < after → after ≤ length rows → IsRowRight width rows number after

-- a token that leads to where a walk begins
pub walk_more : (width : ℕ) {rows : List (List ℕ)} {a b : Node} (token : Token) {n m : ℕ} → Leads width rows a token b
    → IsAttained (Leads width rows) (Ends rows) cost b m → n ≡ cost token + m → IsAttained (Leads width rows) (Ends rows) cost a n
walk_more width {b} token l w e = (token ∷ w.0, (b, l, w.1), omega (arith, w.2, e))

module _ {width : ℕ} {rows : List (List ℕ)} {number : Node → ℕ} {row : ℕ} (is : IsInkedRow width rows number row) where
  -- ---- tokens from the row

  -- a sequence is opened
  opens : (current : Method) → outside number row current ≡ 3 + inside number row current
  opens current = omega (arith, is.placed current true, is.placed current false, is.switched.opens current)

  -- a switch
  switches : (current next : Method) → inside number row current ≤ switching next + inside number row next
  switches current next =
      grind (arith, is.switched.attained next, is.placed current true, is.placed next true, is.switched.switches current)

  steps_from : (current : Method) (is_open : Bool) (token : Token) (b : Node) → Leads width rows (node row current is_open) token b
      → number (node row current is_open) ≤ cost token + number b
  steps_from current false opening b l = omega (arith, opens current, cost_opening, ap number l.1)
  steps_from current true (method digits next ends) b l =
      let costs = switch_costs width rows (node row current true) b digits next ends l in
      omega (arith, switches current next, opens next, rest_below number row next (not ends), ap number l.2)
  steps_from current true (skip digits count ends) b l =
      let costs = skip_costs width rows (node row current true) b digits count ends is.few l in
      let skipped = (is.are_direct current).skipped count (l.2, l.3, l.4) in
      let after = rest_below number (row + count) current (not ends) in
      omega (arith, is.placed current true, is.switched.stays current, ap number l.5)
  steps_from current true (send digits bytes) b l =
      let d = is.are_direct current in
      let least = d.is_length.shortest bytes l.3 in
      let grows = count_grows d.bytes (length bytes) least (omega (arith, l.3.fits)) in
      let costs = row_costs width rows (node row current true) b digits bytes l in
      omega (arith, is.placed current true, is.switched.stays current, d.sent, ap number l.4)
  steps_from current is_open token b l = absurd (cc l.0)

  -- ---- walks from the row

  -- the row below
  next_right : IsRowRight width rows number (row + 1)
  next_right = is.later (row + 1) (omega arith) (omega (arith, is.inside_page))

  direct_walk : (current : Method) → IsAttained (Leads width rows) (Ends rows) cost (node row current true) (is.direct current)
  direct_walk current =
      elim (is.are_direct current).attained [
        | inl sent ↦
            let whole = (is.are_direct current).is_length.attained in
            let s = row_leads width rows row current whole.0 is.inside_page whole.1 in
            walk_more width (row_token whole.0) s.0 (next_right.attained (node (row + 1) current false) refl)
            (omega (arith, sent, s.1, ap row_cost whole.2))
        | inr skipped ↦
            let count : ℕ = skipped.0 in
            let can = skipped.1 in
            let best = best_end number (row + count) current in
            let s = skip_leads width rows row current best.0 is.few can in
            let after = is.later (row + count) (omega (arith, can.0)) can.1 in
            walk_more width (skip_token count best.0) s.0 (after.attained (node (row + count) current (not best.0)) refl)
            (omega (arith, skipped.2, s.1, best.1))
      ]

  inside_walk : (current : Method) → IsAttained (Leads width rows) (Ends rows) cost (node row current true) (inside number row current)
  inside_walk current =
      elim (is.switched.attained current) [
        | inl stays ↦ (let w = direct_walk current in (w.0, w.1, omega (arith, w.2, stays, is.placed current true)))
        | inr next ↦
            let s = switch_leads width rows row current next.0 false in
            walk_more width (switch_token next.0 false) s.0 (direct_walk next.0) (omega (arith, is.placed current true, next.1, s.1))
      ]

  walk_from : (current : Method) (is_open : Bool)
      → IsAttained (Leads width rows) (Ends rows) cost (node row current is_open) (number (node row current is_open))
  walk_from current true = inside_walk current
  walk_from current false = walk_more width opening (refl, refl) (inside_walk current) (omega (arith, opens current, cost_opening))

  -- ---- a white row may be left out

  next_steps : (current : Method) (token : Token) (b : Node) → Leads width rows (node (row + 1) current true) token b
      → inside number (row + 1) current ≤ cost token + number b
  next_steps current token b = next_right.steps (node (row + 1) current true) token b refl

  skip_falls : (current : Method) (count : ℕ) → AreSkippable rows row count
      → rest number (row + 1) current ≤ skipping number row current count
  skip_falls current zero can = absurd (omega (arith, can.0))
  skip_falls current (suc zero) can = omega arith
  skip_falls current (suc (suc count)) can =
      let white = rw (drop_more rows row [] (omega (arith, can.1))) at can.2 in
      let rest : AreSkippable rows (row + 1) (suc count) = (omega arith, omega (arith, can.1), white.1) in
      let below = skip_below width rows number (row + 1) current (next_steps current) is.few rest in
      let grows = count_grows (suc count) (suc (suc count)) (omega arith) (omega (arith, can.1, is.few)) in grind (arith, below, grows)

  direct_falls : (current : Method) → rest number (row + 1) current ≤ is.direct current
  direct_falls current = grind (arith, (is.are_direct current).attained, skip_falls current)

  -- ---- the row

  small_from : (current : Method) (is_open : Bool) → number (node row current is_open) ≤ 65544 * (length rows - row) + 1
  small_from current is_open =
      let d = is.are_direct current in
      let after = next_right.small (node (row + 1) current false) refl in
      let cost_small = row_cost_small d.bytes (length_small d.is_length) in
      let low : inside number row current ≤ 65544 * (length rows - row) - 2 =
      omega (arith, is.placed current true, is.switched.stays current, d.sent, is.inside_page) in
      grind (arith, low, opens current, is.inside_page)

  pub inked_row_right : IsRowRight width rows number row
  inked_row_right = record {
    steps = λ a token b at l.
        at_row (λ (n : Node). Leads width rows n token b → number n ≤ cost token + number b) row
        (λ current is_open. steps_from current is_open token b) a at l;
    ends = λ a at end. absurd (is.inked (subst (λ (r : ℕ). AreWhite (drop r rows)) at end.1));
    attained = at_row (λ (n : Node). IsAttained (Leads width rows) (Ends rows) cost n (number n)) row walk_from;
    falls = λ current inside_page white.
        let below = switch_below width rows number (row + 1) current (next_steps current) in
        grind (arith, is.switched.attained current, is.placed current true, direct_falls, opens current, below);
    small = at_row (λ (n : Node). number n ≤ 65544 * (length rows - row) + 1) row small_from;
  }
