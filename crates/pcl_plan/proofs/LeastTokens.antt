-- Tokens in their shortest spelling: where they lead and what they cost, and numbers that no step falls below.
use Rattle.std.proofs.Common.{◌≡◌, ℕ, ◌+◌, ◌<◌, ◌≤◌, Bool, true, false, List, length, refl, arith}
use Rattle.pcl_plan.proofs.Names.{not, Method, method_code, IsRowData, IsLeastLength, Token, method, skip, send, Node, row_at, row_above, Leads, cost, least_spelling, setting_cost, switching, row_cost, outside, inside, rest, AreSkippable, count_grows, spelled_long, node, cost_method, cost_skip, cost_send, method_small, best_end, spelled_cost, skipping}

abbrev pub switch_token : Method → Bool → Token
switch_token next ends = method (least_spelling (method_code next)) next ends

abbrev pub skip_token : ℕ → Bool → Token
skip_token count ends = skip (least_spelling count) count ends

abbrev pub row_token : List ℕ → Token
row_token bytes = send (least_spelling (length bytes)) bytes

-- ---- where they lead, and what they cost

module _ (width : ℕ) (rows : List (List ℕ)) (row : ℕ) (current : Method) where
  pub switch_leads : (next : Method) (ends : Bool)
      → Leads width rows (node row current true) (switch_token next ends) (node row next (not ends))
      × (cost (switch_token next ends) ≡ switching next)
  switch_leads next ends =
      let s = spelled_cost (method_code next) (omega (arith, method_small next)) in
      ((refl, s.0, refl), omega (arith, s.1, cost_method (least_spelling (method_code next)) next ends))

  pub skip_leads : {count : ℕ} (ends : Bool) → length rows ≤ 65535 → AreSkippable rows row count
      → Leads width rows (node row current true) (skip_token count ends) (node (row + count) current (not ends))
      × (cost (skip_token count ends) ≡ setting_cost count)
  skip_leads {count} ends few can =
      let s = spelled_cost count (omega (arith, can.1)) in
      ((refl, s.0, can.0, can.1, can.2, refl), omega (arith, s.1, cost_skip (least_spelling count) count ends))

  pub row_leads : (bytes : List ℕ) → row < length rows → IsRowData current (row_above width rows row) (row_at rows row) bytes
      → Leads width rows (node row current true) (row_token bytes) (node (row + 1) current false)
      × (cost (row_token bytes) ≡ row_cost (length bytes))
  row_leads bytes lt has =
      let s = spelled_cost (length bytes) (omega (arith, has.fits)) in
      ((refl, s.0, lt, has, refl), omega (arith, s.1, cost_send (least_spelling (length bytes)) bytes))

-- ---- a number inside a sequence that no step falls below

module _ (width : ℕ) (rows : List (List ℕ)) (number : Node → ℕ) (row : ℕ) (current : Method)
    (steps : (token : Token) (b : Node) → Leads width rows (node row current true) token b
    → inside number row current ≤ cost token + number b) where
  pub switch_below : (next : Method) → inside number row current ≤ switching next + rest number row next
  switch_below next =
      let best = best_end number row next in
      let s = switch_leads width rows row current next best.0 in
      omega (arith, steps (switch_token next best.0) (node row next (not best.0)) s.0, s.1, best.1)

  pub skip_below : {count : ℕ} → length rows ≤ 65535 → AreSkippable rows row count
      → inside number row current ≤ skipping number row current count
  skip_below {count} few can =
      let best = best_end number (row + count) current in
      let s = skip_leads width rows row current best.0 few can in
      omega (arith, steps (skip_token count best.0) (node (row + count) current (not best.0)) s.0, s.1, best.1)

  pub row_below : (bytes : List ℕ) → row < length rows → IsRowData current (row_above width rows row) (row_at rows row) bytes
      → inside number row current ≤ row_cost (length bytes) + outside number (row + 1) current
  row_below bytes lt has =
      let s = row_leads width rows row current bytes lt has in
      omega (arith, steps (row_token bytes) (node (row + 1) current false) s.0, s.1)

  -- a row that costs no more than the number has data of least length
  pub row_is_least : (bytes : List ℕ) → row < length rows → IsRowData current (row_above width rows row) (row_at rows row) bytes
      → row_cost (length bytes) + outside number (row + 1) current ≤ inside number row current
      → IsLeastLength current (row_above width rows row) (row_at rows row) (length bytes)
  row_is_least bytes lt has below = record {
    attained = (bytes, has, refl);
    shortest = λ other also. grind (arith, below, count_grows (length other) (length bytes), has.fits, row_below other lt also);
  }

-- ---- no spelling costs less

module _ (width : ℕ) (rows : List (List ℕ)) (a b : Node) (digits : List ℕ) where
  pub switch_costs : (next : Method) (ends : Bool) → Leads width rows a (method digits next ends) b
      → switching next ≤ cost (method digits next ends)
  switch_costs next ends l = omega (arith, cost_method digits next ends, spelled_long digits l.1 (omega (arith, method_small next)))

  pub skip_costs : (count : ℕ) (ends : Bool) → length rows ≤ 65535 → Leads width rows a (skip digits count ends) b
      → setting_cost count ≤ cost (skip digits count ends)
  skip_costs count ends few l = omega (arith, cost_skip digits count ends, spelled_long digits l.1 (omega (arith, l.3)))

  pub row_costs : (bytes : List ℕ) → Leads width rows a (send digits bytes) b → row_cost (length bytes) ≤ cost (send digits bytes)
  row_costs bytes l = omega (arith, cost_send digits bytes, spelled_long digits l.1 (omega (arith, l.3.fits)))
