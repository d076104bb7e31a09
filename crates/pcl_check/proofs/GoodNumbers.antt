-- Good numbers are undercut by no token.
use Rattle.std.proofs.Common.{◌≡◌, ℕ, zero, suc, ◌+◌, ◌<◌, ◌≤◌, Bool, true, false, List, length, refl, sym, ap, inl, inr, arith}
use Rattle.pcl_check.proofs.Names.{not, cases_lt, Method, method_code, IsRowData, IsFeasible, RowNumbers, Token, opening, method, skip, send, Node, row_at, row_above, Leads, Ends, cost, least_spelling, row_cost, node_number, count_grows, spelled_long, length_small, spelled_cost, cost_opening, cost_method, cost_skip, cost_send, method_small, node, number_past, number_at, IsGoodNumber, AreGoodNumbers, IsLeastOfRow, IsGiven, BoundData}

-- ---- from good numbers

-- what is sent undercuts no number
abbrev pub AreGoodSends : ℕ → List (List ℕ) → (Node → ℕ) → Type 0
AreGoodSends width rows number = (row : ℕ) (current : Method) (bytes : List ℕ) → row < length rows
    → IsRowData current (row_above width rows row) (row_at rows row) bytes
    → number_at number row current true ≤ row_cost (length bytes) + number_at number (row + 1) current false

steps_from : (width : ℕ) (rows : List (List ℕ)) (Counts : ℕ → Method → ℕ → Type 0) (number : Node → ℕ) {row : ℕ} → length rows ≤ 65535
    → AreGoodSends width rows number → {current : Method} (is_open : Bool) (token : Token) (b : Node)
    → IsGoodNumber rows Counts number row current is_open → Leads width rows (node row current is_open) token b
    → number (node row current is_open) ≤ cost token + number b
steps_from width rows Counts number few sends false opening b good l = omega (arith, good.opens, cost_opening, ap number l.1)
steps_from width rows Counts number few sends true (method digits next ends) b good l =
    omega (arith, good.switches next (not ends), cost_method, spelled_long digits l.1 (omega (arith, method_small next)), ap number l.2)
steps_from width rows Counts number few sends true (skip digits count ends) b good l =
    omega (arith, good.skips count (not ends) l.2 l.3 l.4, cost_skip, spelled_long digits l.1 (omega (arith, l.3, few)), ap number l.5)
steps_from width rows Counts number {row} few sends {current} true (send digits bytes) b good l =
    omega (arith, sends row current bytes l.2 l.3, cost_send, spelled_long digits l.1 (omega (arith, l.3.fits)), ap number l.4)
steps_from width rows Counts number few sends is_open token b good l = absurd cc

end_from : (rows : List (List ℕ)) (Counts : ℕ → Method → ℕ → Type 0) (number : Node → ℕ) {row : ℕ} {current : Method} (is_open : Bool)
    → IsGoodNumber rows Counts number row current is_open → Ends rows (node row current is_open) → number (node row current is_open) ≡ 0
end_from rows Counts number false good end = good.ends end.1
end_from rows Counts number true good end = absurd cc

feasible_by_sends : (width : ℕ) {rows : List (List ℕ)} (table : List RowNumbers) (Counts : ℕ → Method → ℕ → Type 0) → length rows ≤ 65535
    → length table ≡ length rows + 1 → AreGoodSends width rows (node_number table) → AreGoodNumbers rows Counts (node_number table)
    → IsFeasible (Leads width rows) (Ends rows) cost (node_number table)
feasible_by_sends width {rows} table Counts few size sends good = record {
  steps = λ a token b l.
      let kept = λ (within : a.row ≤ length rows).
      steps_from width rows Counts (node_number table) few sends a.inside token b (good a.row a.method a.inside within) l in
      grind (arith, kept, number_past table a, size);
  ends = λ a end.
      let kept = λ (within : a.row ≤ length rows).
      end_from rows Counts (node_number table) a.inside (good a.row a.method a.inside within) end in
      grind (arith, kept, number_past table a, size);
}

-- ---- lengths

-- shorter data costs no more
row_cost_grows : (less more : ℕ) → less ≤ more → more ≤ 65535 → row_cost less ≤ row_cost more
row_cost_grows less more le small = omega (arith, count_grows less more le (omega arith))

-- given lengths that no data is shorter than
pub numbers_by_bounds : (width : ℕ) (rows : List (List ℕ)) (table : List RowNumbers) (lengths : ℕ → Method → ℕ) → length rows ≤ 65535
    → length table ≡ length rows + 1 → BoundData width rows lengths → AreGoodNumbers rows (IsGiven lengths) (node_number table)
    → IsFeasible (Leads width rows) (Ends rows) cost (node_number table)
numbers_by_bounds width rows table lengths few size bound good =
    feasible_by_sends width table (IsGiven lengths) few size
    (λ row current bytes inside whole.
    let le = row_cost_grows (lengths row current) (length bytes) (bound row current bytes inside whole) (omega (arith, whole.fits)) in
    omega (arith, (good row current true (omega arith)).sends (lengths row current) inside refl)) good

-- least lengths: shorter data would undercut more, so the least data that undercuts is least data
sends_by_least : (width : ℕ) {rows : List (List ℕ)} {number : Node → ℕ} → AreGoodNumbers rows (IsLeastOfRow width rows) number
    → (most : ℕ) {row : ℕ} {current : Method} {bytes : List ℕ} → length bytes < most → row < length rows
    → IsRowData current (row_above width rows row) (row_at rows row) bytes
    → number_at number row current true ≤ row_cost (length bytes) + number_at number (row + 1) current false
sends_by_least width good zero short inside coded = absurd (omega arith)
sends_by_least width {rows} {number} good (suc most) {row} {current} {bytes} short inside coded =
    let rest : ℕ = number_at number (row + 1) current false in
    elim (cases_lt (row_cost (length bytes) + rest) (number_at number row current true)) [
      | inr within ↦ within
      | inl under ↦ (good row current true (omega arith)).sends (length bytes) inside (record {
        attained = (bytes, coded, refl);
        shortest = λ other whole.
            let kept = λ (less : length other < length bytes). sends_by_least width good most (omega arith) inside whole in
            grind (arith, kept, row_cost_grows (length other) (length bytes), coded.fits);
      })
    ]

pub good_feasible : (width : ℕ) {rows : List (List ℕ)} (table : List RowNumbers) → length rows ≤ 65535 → length table ≡ length rows + 1
    → AreGoodNumbers rows (IsLeastOfRow width rows) (node_number table) → IsFeasible (Leads width rows) (Ends rows) cost (node_number table)
good_feasible width {rows} table few size good =
    feasible_by_sends width table (IsLeastOfRow width rows) few size
    (λ row current bytes inside whole. sends_by_least width good (length bytes + 1) (omega arith) inside whole) good

-- ---- to good numbers

-- a sequence that goes on or ends
ends_or : (inside : Bool) → not (not inside) ≡ inside
ends_or inside = grind arith

pub feasible_good : (width : ℕ) {rows : List (List ℕ)} (number : Node → ℕ) → length rows ≤ 65535
    → IsFeasible (Leads width rows) (Ends rows) cost number → AreGoodNumbers rows (IsLeastOfRow width rows) number
feasible_good width number few is row current false within = record {
  opens = omega (arith, is.steps (node row current false) opening (node row current true) (refl, refl), cost_opening);
  ends = λ white. is.ends (node row current false) (refl, white);
}
feasible_good width {rows} number few is row current true within = record {
  switches = λ next inside.
      let s = spelled_cost (method_code next) (omega (arith, method_small next)) in
      let step = is.steps (node row current true) (method (least_spelling (method_code next)) next (not inside)) (node row next inside)
      (refl, s.0, ap (node row next) (sym (ends_or inside))) in
      omega (arith, cost_method);
  skips = λ count inside some room white.
      let s = spelled_cost count (omega (arith, room, few)) in
      let step = is.steps (node row current true) (skip (least_spelling count) count (not inside)) (node (row + count) current inside)
      (refl, s.0, some, room, white, ap (node (row + count) current) (sym (ends_or inside))) in
      omega (arith, cost_skip);
  sends = λ bytes inside least.
      let whole = least.attained in
      let s = spelled_cost bytes (length_small least) in
      let step = is.steps (node row current true) (send (least_spelling bytes) whole.0) (node (row + 1) current false)
      (refl, rw whole.2 s.0, inside, whole.1, refl) in
      omega (arith, cost_send, whole.2);
}
