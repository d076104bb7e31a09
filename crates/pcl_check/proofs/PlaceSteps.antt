-- All elements at a place, kind by kind.
use Rattle.std.proofs.Common.{◌≡◌, ℕ, ◌+◌, ◌<◌, ◌≤◌, List, length, take, drop, replicate, refl, sym, ap, ◌∙◌, inl, inr, arith, Some, None}
use Rattle.pcl_check.proofs.Names.{slice_index, Option, cases_lt, length-drop, length-replicate, get_or_past, Method, Plain, Runs, Packed, Delta, offset_of, Element, given, stop, Shape, IsRowTable, element_of, shape_stop, IsRepeat, plain_shape, runs_shape, packed_shape, delta_shape, IsShapeElement, agrees_gives, byte_step, run_step, repeat_step, literal_step, replace_step, IsGoodPlace, FindsPlace, FindsBadPlace, IsGoodByte, AreGoodRuns, AreGoodLiterals, AreGoodReplacements, AreGoodSteps, first_of_run}

-- ---- from kinds to elements

-- copies of one byte that agree with the row
copies_front : (wanted : List ℕ) {e : Element} {least most : ℕ} → (r : IsRepeat e.head e.bytes least most) → offset_of e.head ≡ 0
    → given e ≡ take (length (given e)) (drop (offset_of e.head) wanted)
    → (length (given e) ≡ r.count) × (take r.count wanted ≡ replicate r.count r.byte)
copies_front wanted {e} r none gives =
    let size : length (given e) ≡ r.count = ap length r.given_is ∙ length-replicate r.count r.byte in
    (size, sym (rw (size, none) at gives) ∙ r.given_is)

module _ {old row : List ℕ} (numbers : List ℕ) {place : ℕ} where
  pub steps_plain : length old ≡ length row → length numbers ≡ length row + 1
      → place ≤ length row → IsGoodByte numbers place → AreGoodSteps Plain old row numbers place
  steps_plain same size le good = λ e next l.
      let s = plain_shape e.head l.element.head_is.method_is l.element.complete in
      let g = agrees_gives (drop place old) (omega (arith, length-drop place old, length-drop place row)) l.element l.agrees in
      grind (arith, good, g.0, s.0, s.1.above, s.1.below, s.1.bytes_are, l.next_is, length-drop place row, size)

  pub steps_runs : length old ≡ length row → place ≤ length row
      → AreGoodRuns row numbers 256 place → AreGoodSteps Runs old row numbers place
  steps_runs same le good = λ e next l.
      let s = runs_shape e.head l.element.head_is.method_is l.element.head_is.in_range l.element.complete in
      let g = agrees_gives (drop place old) (omega (arith, length-drop place old, length-drop place row)) l.element l.agrees in
      let f = copies_front (drop place row) s.1 s.0 g.2 in
      let kept = good s.1.count s.1.byte (omega (arith, s.1.above)) s.1.below (omega (arith, g.0, s.0, f.0, length-drop place row)) f.1 in
      grind (arith, kept, s.1.bytes_are, l.next_is, s.0, f.0)

  pub steps_packed : length old ≡ length row → length numbers ≡ length row + 1
      → place ≤ length row → AreGoodLiterals numbers place → AreGoodRuns row numbers 128 place → AreGoodSteps Packed old row numbers place
  steps_packed same size le literals runs = λ e next l.
      let g = agrees_gives (drop place old) (omega (arith, length-drop place old, length-drop place row)) l.element l.agrees in
      elim (cases_lt 0 (stop e)) [
        | inr none ↦ grind (arith, l.next_is)
        | inl some ↦
            let s = packed_shape e.head e.bytes l.element.head_is.method_is l.element.head_is.in_range l.element.complete some in
            elim s.1 [
              | inl r ↦
                  let f = copies_front (drop place row) r s.0 g.2 in
                  let kept = runs r.count r.byte (omega (arith, r.above)) r.below in
                  grind (arith, kept (omega (arith, g.0, s.0, f.0, length-drop place row)) f.1, r.bytes_are, l.next_is, s.0, f.0)
              | inr b ↦
                  grind (arith, literals (length (given e)), g.0, length-drop place row, b.above, b.below, b.bytes_are, l.next_is, s.0)
            ]
      ]

  pub steps_delta : length old ≡ length row → place ≤ length row
      → AreGoodReplacements old row numbers place → AreGoodSteps Delta old row numbers place
  steps_delta same le good = λ e next l.
      let s = delta_shape e.head l.element.head_is.method_is l.element.head_is.in_range l.element.complete in
      let g = agrees_gives (drop place old) (omega (arith, length-drop place old, length-drop place row)) l.element l.agrees in
      let kept = good (offset_of e.head) (length (given e)) (omega (arith, s.above)) s.below in
      grind (arith, kept (omega (arith, g.0, length-drop place row)) g.1, s.bytes_are, l.next_is)

  -- ---- from elements to kinds

  -- an element of a shape undercuts no number
  shape_kept : {method : Method} {shape : Shape} {bytes : ℕ} → IsShapeElement method (drop place old) (drop place row) shape bytes
      → AreGoodSteps method old row numbers place → slice_index numbers place ≤ bytes + slice_index numbers (place + shape_stop shape)
  shape_kept {shape} is good =
      let e : Element = element_of shape (drop place row) in
      grind (arith, good e (place + stop e) (record { element = is.element; agrees = is.agrees; next_is = refl }), is.bytes_are, is.stop_is)

  pub bytes_of_steps : length numbers ≡ length row + 1 → AreGoodSteps Plain old row numbers place → IsGoodByte numbers place
  bytes_of_steps size good = λ inside.
      shape_kept (byte_step (drop place old) (drop place row) (omega (arith, length-drop place row, size))) good

  pub runs_of_steps : AreGoodSteps Runs old row numbers place → AreGoodRuns row numbers 256 place
  runs_of_steps good = λ count byte some few within alike.
      shape_kept (run_step (drop place old) (omega arith) few (omega (arith, length-drop place row))
      (first_of_run (drop place row) byte some alike)) good

  pub literals_of_steps : length numbers ≡ length row + 1 → AreGoodSteps Packed old row numbers place → AreGoodLiterals numbers place
  literals_of_steps size good = λ count some few within.
      shape_kept (literal_step (drop place old) (drop place row) count (omega arith) few
      (omega (arith, length-drop place row, size))) good

  -- a literal of one byte costs as much as its repeat would
  pub repeats_of_steps : length numbers ≡ length row + 1 → AreGoodSteps Packed old row numbers place → AreGoodRuns row numbers 128 place
  repeats_of_steps size good = λ count byte some few within alike.
      let repeated = λ (more : 1 < count). shape_kept (repeat_step (drop place old) (omega arith) few
      (omega (arith, length-drop place row)) (first_of_run (drop place row) byte some alike)) good in
      grind (arith, (literals_of_steps size good) count some few, repeated)

  pub replacements_of_steps : AreGoodSteps Delta old row numbers place → AreGoodReplacements old row numbers place
  replacements_of_steps good = λ offset len some few within alike.
      shape_kept
      (replace_step (drop place old) (drop place row) offset len (omega arith) few (omega (arith, length-drop place row)) alike) good

-- ---- row tables

pub table_of_good : {method : Method} {seed row numbers : List ℕ} → length numbers ≡ length row + 1
    → ((place : ℕ) → place ≤ length row → IsGoodPlace method seed row numbers place) → IsRowTable method seed row numbers
table_of_good {row} {numbers} size good = record {
  size = size;
  feasible = record {
    steps = λ place e next l. grind (arith, good place, l, get_or_past numbers place 0);
    ends = λ place end. grind (arith, good place, end, get_or_past numbers place 0);
  };
}

pub finds_table : (method : Method) (seed row numbers : List ℕ) (found : Option ℕ) → length numbers ≡ length row + 1
    → FindsPlace (IsGoodPlace method seed row numbers) (length row) found → FindsBadPlace method seed row numbers found
finds_table method seed row numbers None size found = table_of_good size found
finds_table method seed row numbers (Some bad) size found = found
