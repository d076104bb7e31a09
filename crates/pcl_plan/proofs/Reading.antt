-- Steps are read off a table that is right.
use Rattle.std.proofs.Common.{◌≡◌, ℕ, ◌+◌, ◌<◌, ◌≤◌, true, false, List, [], ◌∷◌, length, refl, ap, ◌∙◌, arith}
use Rattle.pcl_plan.proofs.Names.{not, drop_of_length-le, Method, IsRowData, IsLeastLength, Walk, total, IsFeasible, IsLeastCost, feasible_bounds, attained_is_least, RowNumbers, Token, opening, method, skip, send, Node, row_at, row_above, Leads, Ends, cost, switching, row_cost, node_number, outside, inside, rest, skipping, IsReadable, IsRowRight, AreRowsRightFrom, AreSkippable, IsWhiteRun, node, length_rows, Rows, rows_of, cost_opening, cost_some, rest_below, skippable_within, white_to_end, number_past}
use Rattle.pcl_plan.proofs.LeastTokens.{switch_below, skip_below, row_below, row_is_least, switch_costs, skip_costs, row_costs}
use Rattle.pcl_plan.proofs.Filled.{readable}

-- ---- the whole table

pub feasible_table : {width : ℕ} {rows : List (List ℕ)} {table : List RowNumbers} → AreRowsRightFrom width rows table 0
    → IsFeasible (Leads width rows) (Ends rows) cost (node_number table)
feasible_table {rows} {table} right = record {
  steps = λ a token b l.
      let kept = λ (within : a.row ≤ length rows). (right.right a.row (omega arith) within).steps a token b refl l in
      grind (arith, kept, number_past table a, right.size);
  ends = λ a end.
      let kept = λ (within : a.row ≤ length rows). (right.right a.row (omega arith) within).ends a refl end in
      grind (arith, kept, number_past table a, right.size);
}

pub least_table : {width : ℕ} {rows : List (List ℕ)} {table : List RowNumbers} → AreRowsRightFrom width rows table 0 → (a : Node)
    → a.row ≤ length rows → IsLeastCost (Leads width rows) (Ends rows) cost a (node_number table a)
least_table {width} {rows} {table} right a within =
    attained_is_least (feasible_table right) a ((right.right a.row (omega arith) within).attained a refl)

-- ---- what begins the least inside a sequence

-- in a table that is right and of a page of few rows
pub record IsRightTable (width : ℕ) (rows : List (List ℕ)) (table : List RowNumbers) : Type 0 where
  pub few : length rows ≤ 9999
  pub right : AreRowsRightFrom width rows table 0

pub right_table : (rows : Rows) {table : List RowNumbers} → AreRowsRightFrom rows.width (rows_of rows) table 0
    → IsRightTable rows.width (rows_of rows) table
right_table rows right = record { few = omega (arith, length_rows rows.count rows.width rows.bytes.now, rows.few); right = right }

module _ {width : ℕ} {rows : List (List ℕ)} {table : List RowNumbers} (is : IsRightTable width rows table) where
  bounds : (a : Node) (es : List Token) → Walk (Leads width rows) (Ends rows) a es → node_number table a ≤ total cost es
  bounds = feasible_bounds (feasible_table is.right)

  steps : (a : Node) (token : Token) (b : Node) → Leads width rows a token b → node_number table a ≤ cost token + node_number table b
  steps = (feasible_table is.right).steps

  row_right : (row : ℕ) → row ≤ length rows → IsRowRight width rows (node_number table) row
  row_right row within = is.right.right row (omega arith) within

  pub skip_bound : (row : ℕ) (current : Method) {count : ℕ} → AreSkippable rows row count
      → inside (node_number table) row current ≤ skipping (node_number table) row current count
  skip_bound row current can =
      skip_below width rows (node_number table) row current (steps (node row current true)) (omega (arith, is.few)) can

  -- the least begins with a row, where it begins with no skip and no switch
  begins_with : {row : ℕ} {current : Method} (es : List Token) → Walk (Leads width rows) (Ends rows) (node row current true) es
      → total cost es ≡ inside (node_number table) row current → ((count : ℕ) → AreSkippable rows row count
      → inside (node_number table) row current < skipping (node_number table) row current count)
      → ((next : Method) → inside (node_number table) row current ≡ switching next + rest (node_number table) row next → ⊥)
      → (bytes : List ℕ) × (row < length rows) × IsRowData current (row_above width rows row) (row_at rows row) bytes
      × (row_cost (length bytes) + outside (node_number table) (row + 1) current ≤ inside (node_number table) row current)
  begins_with {row} {current} (method digits next ends ∷ es) w t no_skip no_switch =
      let costs = switch_costs width rows (node row current true) w.0 digits next ends w.1 in
      let below = switch_below width rows (node_number table) row current (steps (node row current true)) next in
      let after = rest_below (node_number table) row next (not ends) in
      absurd (no_switch next (omega (arith, t, bounds w.0 es w.2, ap (node_number table) w.1.2)))
  begins_with {row} {current} (skip digits count ends ∷ es) w t no_skip no_switch =
      let costs = skip_costs width rows (node row current true) w.0 digits count ends (omega (arith, is.few)) w.1 in
      let after = rest_below (node_number table) (row + count) current (not ends) in
      absurd (omega (arith, t, bounds w.0 es w.2, ap (node_number table) w.1.5, no_skip count (w.1.2, w.1.3, w.1.4)))
  begins_with {row} {current} (send digits bytes ∷ es) w t no_skip no_switch =
      let costs = row_costs width rows (node row current true) w.0 digits bytes w.1 in
      (bytes, w.1.2, w.1.3, omega (arith, t, bounds w.0 es w.2, ap (node_number table) w.1.4))
  begins_with es w t no_skip no_switch = absurd cc

  -- where no skip of some white rows and no switch begins the least, the row does, by least data
  pub row_begins : {row run least : ℕ} {current : Method} → row < length rows → IsWhiteRun rows row run
      → least ≡ inside (node_number table) row current
      → ((count : ℕ) → 0 < count → count ≤ run → least < skipping (node_number table) row current count)
      → ((next : Method) → least ≡ switching next + rest (node_number table) row next → ⊥)
      → (bytes : ℕ) × IsLeastLength current (row_above width rows row) (row_at rows row) bytes
      × (least ≡ row_cost bytes + outside (node_number table) (row + 1) current)
  row_begins {row} {run} {least} {current} inside_page white same no_skip no_switch =
      let w = (row_right row (omega arith)).attained (node row current true) refl in
      let sent = begins_with w.0 w.1 w.2 (λ count can. omega (arith, no_skip count can.0 (skippable_within white can), same))
      (λ next e. no_switch next (same ∙ e)) in
      let from = steps (node row current true) in (
        length sent.0,
        row_is_least width rows (node_number table) row current from sent.0 sent.1 sent.2 sent.3,
        omega (arith, same, sent.3, row_below width rows (node_number table) row current from sent.0 sent.1 sent.2),
      )

  -- ---- outside a sequence

  opens_with : (row : ℕ) (current : Method) (es : List Token) → Walk (Leads width rows) (Ends rows) (node row current false) es
      → total cost es ≡ outside (node_number table) row current → 0 < outside (node_number table) row current
      → outside (node_number table) row current ≡ 3 + inside (node_number table) row current
  opens_with row current [] w t some = absurd (omega arith)
  opens_with row current (opening ∷ es) w t some =
      let opened = steps (node row current false) opening (node row current true) (refl, refl) in
      omega (arith, t, bounds w.0 es w.2, ap (node_number table) w.1.1, cost_opening)
  opens_with row current (token ∷ es) w t some = absurd (cc w.1.0)

  -- where the rest isn't white, a sequence is opened
  pub opens : {row : ℕ} (current : Method) → row ≤ length rows → 0 < outside (node_number table) row current
      → outside (node_number table) row current ≡ 3 + inside (node_number table) row current
  opens {row} current within some =
      let w = (row_right row within).attained (node row current false) refl in opens_with row current w.0 w.1 w.2 some

  ends_with : (a : Node) (es : List Token) → Walk (Leads width rows) (Ends rows) a es → total cost es ≡ 0 → Ends rows a
  ends_with a [] w t = w
  ends_with a (token ∷ es) w t = absurd (omega (arith, t, cost_some token))

  -- where the number is 0, the rest is white and no sequence is open
  pub ends : (a : Node) → a.row ≤ length rows → node_number table a ≡ 0 → Ends rows a
  ends a within none =
      let w = (row_right a.row within).attained a refl in ends_with a w.0 w.1 (w.2 ∙ none)

  -- where the rest isn't white, a row is left
  pub row_left : (row : ℕ) (current : Method) → row ≤ length rows → 0 < outside (node_number table) row current → row < length rows
  row_left row current within some =
      let nothing = (row_right row within).ends (node row current false) refl in
      grind (arith, some, λ (past : length rows ≤ row). nothing (refl, rw (drop_of_length-le rows past) tt))

  -- where the rest isn't white, the run of white rows ends before the rows do
  pub readable_run : {row : ℕ} (current : Method) {run : ℕ} → 0 < outside (node_number table) row current → IsWhiteRun rows row run
      → IsReadable table row run
  readable_run {row} current {run} some white =
      let nothing = (row_right row (omega (arith, white.within))).ends (node row current false) refl in
      readable width rows table row run is.few
      (record { size = is.right.size; right = λ after from within. row_right after within }) white
      (grind (arith, some, λ (past : length rows ≤ row + run). nothing (refl, white_to_end white (omega (arith, white.within)))))

  pub small_number : (a : Node) → a.row ≤ length rows → node_number table a ≤ 655374457
  small_number a within = omega (arith, (row_right a.row within).small a refl, is.few)
