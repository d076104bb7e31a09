-- The numbers of a plan are small: each row can be sent as it is.
use Rattle.std.proofs.Common.{◌≡◌, ℕ, zero, suc, ◌+◌, ◌-◌, ◌*◌, ◌^◌, ◌<◌, ◌≤◌, Bool, true, false, List, [], ◌∷◌, length, refl, sym, subst, ◌∙◌, arith}
use Rattle.pcl_cert.proofs.Names.{slice_index_or, AllByRecursion, append-nil, drop_all, row_limit, Method, Plain, Runs, Packed, Delta, method_code, base, RowFrom, IsRowData, decoded_is, overlaid, overlaid_within, plain_elements, row_of_plain, IsCodable, length-base, IsFeasible, opening, method, send, Node, row_at, row_above, Leads, Ends, cost, AreOfWidth, least_spelling, node_number, no_numbers, RowNumbers, node, row_width, above_width, cost_opening, cost_method, cost_send, method_small, spelled_cost, row_cost_small, AreSmall}

-- ---- plain data

-- a row is whole data for itself
plain_row : {seed row : List ℕ} → IsCodable seed row → IsRowData Plain seed row row
plain_row {seed} {row} codable =
    let old : List ℕ = base Plain seed in
    let same : length old ≡ length row = length-base Plain seed ∙ codable.same_size in
    let none = drop_all (0 + length row) old (omega (arith, same)) in
    let laid : overlaid old 0 row ≡ row = cc (overlaid_within old 0 row (omega (arith, same)), none, append-nil row) in
    let elements = plain_elements row in
    record {
      whole = (elements.0, elements.1, elements.2, omega (arith, elements.3));
      decodes = decoded_is Plain seed row row (subst (λ (made : List ℕ). RowFrom Plain row old made) laid (row_of_plain row old));
      fits = omega (arith, codable.small);
    }

-- ---- numbers of nodes

module _ {width : ℕ} {rows : List (List ℕ)} {number : Node → ℕ} (are : AreOfWidth width rows) (narrow : width ≤ row_limit)
    (feasible : IsFeasible (Leads width rows) (Ends rows) cost number) where
  sent_plain : (row : ℕ) → row < length rows → number (node row Plain true) ≤ 65541 + number (node (row + 1) Plain false)
  sent_plain row within =
      let bytes : List ℕ = row_at rows row in
      let long : length bytes ≡ width = row_width rows row are within in
      let codable : IsCodable (row_above width rows row) bytes = record {
        same_size = above_width rows row are (omega arith) ∙ sym long;
        small = omega (arith, long);
      } in
      let s = spelled_cost (length bytes) (omega (arith, long)) in
      let step = feasible.steps (node row Plain true) (send (least_spelling (length bytes)) bytes) (node (row + 1) Plain false)
      (refl, s.0, within, plain_row codable, refl) in
      omega (arith, cost_send (least_spelling (length bytes)) bytes, row_cost_small (length bytes) (omega (arith, long)))

  -- outside a sequence, where this many rows are left
  outside_small : (left row : ℕ) (current : Method) → row + left ≡ length rows → number (node row current false) ≤ 65546 * left
  outside_small zero row current all =
      omega (arith, feasible.ends (node row current false) (refl, rw (drop_all row rows (omega (arith, all))) tt))
  outside_small (suc left) row current all =
      let s = spelled_cost (method_code Plain) (omega (arith, method_small Plain)) in
      let opened = feasible.steps (node row current false) opening (node row current true) (refl, refl) in
      let set = feasible.steps (node row current true) (method (least_spelling 0) Plain false) (node row Plain true) (refl, s.0, refl) in
      let after = outside_small left (row + 1) Plain (omega (arith, all)) in
      omega (arith, cost_opening, cost_method (least_spelling 0) Plain false, sent_plain row (omega (arith, all)))

  pub number_small : length rows ≤ 9999 → (row : ℕ) (current : Method) (is_open : Bool) → row ≤ length rows
      → number (node row current is_open) ≤ 655394455
  number_small few row current false within = omega (arith, outside_small (length rows - row) row current (omega arith))
  number_small few row current true within =
      let s = spelled_cost (method_code Plain) (omega (arith, method_small Plain)) in
      let set = feasible.steps (node row current true) (method (least_spelling 0) Plain true) (node row Plain false) (refl, s.0, refl) in
      omega (arith, cost_method (least_spelling 0) Plain true, outside_small (length rows - row) row Plain (omega arith))

-- ---- numbers of a table

each_small : (table : List RowNumbers) → ((row : ℕ) → row < length table → AreSmall (slice_index_or table row no_numbers))
    → AllByRecursion AreSmall table
each_small [] small = tt
each_small (numbers ∷ table) small = (small 0 (omega arith), each_small table (λ row within. small (suc row) (omega arith)))

pub numbers_small : {width : ℕ} {rows : List (List ℕ)} (table : List RowNumbers) → AreOfWidth width rows → width ≤ row_limit
    → length rows ≤ 9999 → length table ≡ length rows + 1
    → IsFeasible (Leads width rows) (Ends rows) cost (node_number table) → AllByRecursion AreSmall table
numbers_small table are narrow few size feasible =
    each_small table (λ row within.
    let at : (current : Method) (is_open : Bool) → node_number table (node row current is_open) < 2 ^ 32 =
    λ current is_open. omega (arith, number_small are narrow feasible few row current is_open (omega (arith, size))) in
    (at Plain false, at Plain true, at Runs false, at Runs true, at Packed false, at Packed true, at Delta false, at Delta true))
