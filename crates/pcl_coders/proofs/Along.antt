-- The choice of an element along a table that is right.
use Rattle.std.proofs.Common.{◌≡◌, ℕ, ◌+◌, ◌<◌, ◌≤◌, min, List, [], ◌∷◌, length, drop, inl, inr, arith}
use Rattle.pcl_coders.proofs.Names.{slice_index, drop-drop, length-drop, get_or-drop, run_part, Method, Runs, Packed, Delta, IsFirstDifference, IsRunEnd, offset_of, Element, given, stop, Walk, total, IsLatestStart, replacement_bytes, StepsOver, NeedsNoMore, element_cost, NoLiteral, IsLiteralLen, AreRightFrom, Shape, Run, LiteralRun, RepeatRun, Replace, element_of, shape_stop, IsShapeChoice, IsReplacement}
use Rattle.pcl_coders.proofs.Shapes.{packed_shape}
use Rattle.pcl_coders.proofs.Prefixes.{IsRunLen, run_len_of, same_len_of}
use Rattle.pcl_coders.proofs.Choices.{agrees_gives, IsShapeElement, step_choice, runs_choice, repeat_step, literal_step, replace_step, within_run}
use Rattle.pcl_coders.proofs.RowWalks.{stop_within}
use Rattle.pcl_coders.proofs.Filling.{attained_from}
use Rattle.pcl_coders.proofs.Ends.{ends_by}
use Rattle.pcl_coders.proofs.Starts.{delta_step, latest_is_as_good}
use Rattle.pcl_coders.proofs.Places.{runs_shorten, packed_shorten, falls}

-- the numbers of the rest of a row
pub right_from_drop : {method : Method} {old row table : List ℕ} {place : ℕ} → place ≤ length row → AreRightFrom method old row table 0
    → AreRightFrom method (drop place old) (drop place row) (drop place table) 0
right_from_drop {old} {row} {table} {place} within right q low high =
    let long = length-drop place row in
    let is = right (place + q) (omega arith) (omega arith) in
    grind (arith, is.steps, is.ends, is.attained, drop-drop q place old, drop-drop q place row, get_or-drop place table)

-- a shape whose bytes and number are the first number is a best one
pub along_choice : {method : Method} {old wanted numbers : List ℕ} {shape : Shape} {bytes : ℕ} → AreRightFrom method old wanted numbers 0
    → IsShapeElement method old wanted shape bytes → 0 < shape_stop shape
    → slice_index numbers 0 ≡ bytes + slice_index numbers (shape_stop shape)
    → IsShapeChoice method old wanted numbers shape (slice_index numbers 0)
along_choice {numbers} right s some sum-is =
    step_choice s some sum-is (λ d element agrees goes.
    let at : 0 + stop d ≡ stop d = omega arith in
    omega (arith, rw at at ((right 0 (omega arith) (omega arith)).steps d element agrees)))

pub along_literal : {old wanted numbers : List ℕ} {len : ℕ} → AreRightFrom Packed old wanted numbers 0
    → IsLiteralLen numbers (min (length wanted) 128) len → IsShapeChoice Packed old wanted numbers (LiteralRun len) (slice_index numbers 0)
along_literal {old} {wanted} {len} right is =
    along_choice right
    (literal_step old wanted len is.some (omega (arith, is.within)) (omega (arith, is.within))) (omega (arith, is.some)) is.sum_is

repeat_of_run : (old : List ℕ) {wanted : List ℕ} {run end : ℕ} → IsRunLen wanted end → run ≡ min end 128 → 2 ≤ run
    → IsShapeElement Packed old wanted (RepeatRun run) 2
repeat_of_run old {wanted} {run} {end} is run-is more =
    repeat_step old more (omega arith) (omega (arith, is.within)) (run_part wanted (slice_index wanted 0) (omega arith) is.equal)

pub along_repeat : {old wanted numbers : List ℕ} {run end : ℕ} → AreRightFrom Packed old wanted numbers 0 → IsRunEnd wanted 0 end
    → run ≡ min end 128 → 2 ≤ run → slice_index numbers run + 2 ≡ slice_index numbers 0
    → IsShapeChoice Packed old wanted numbers (RepeatRun run) (slice_index numbers 0)
along_repeat {old} {wanted} {end} right is run-is more sum-is =
    along_choice right (repeat_of_run old (run_len_of end is (omega arith)) run-is more) (omega arith) (omega arith)

-- where no literal is best, the longest repeat is
pub no_literal_repeat : (old wanted numbers : List ℕ) (run end : ℕ) → length old ≡ length wanted → 0 < length wanted
    → AreRightFrom Packed old wanted numbers 0 → 0 < slice_index numbers 0 → IsRunEnd wanted 0 end → run ≡ min end 128
    → NoLiteral numbers (min (length wanted) 128) → IsShapeChoice Packed old wanted numbers (RepeatRun run) (slice_index numbers 0)
no_literal_repeat old wanted numbers run end size some right needed is run-is none =
    let here = right 0 (omega arith) (omega arith) in
    let run-len = run_len_of end is (omega arith) in
    elim here.attained [
      | inl ends ↦ absurd (omega (arith, here.ends ends))
      | inr next ↦
          let e : Element = next.0 in
          let g = agrees_gives old size next.1.element next.1.agrees in
          let s = packed_shape e.head e.bytes next.1.element.head_is.method_is next.1.element.head_is.in_range next.1.element.complete
          next.1.goes_on in
          elim s.1 [
            | inr l ↦ absurd (none (length (given e)) l.above (omega (arith, g.0, l.below)) (grind (arith, s.0, next.1, l)))
            | inl r ↦
                let w = within_run run-len s.0 r g.0 g.2 in
                let more : 2 ≤ run = omega (arith, w.0, r.above, r.below) in
                let fall : slice_index numbers run ≤ slice_index numbers r.count =
                falls Packed old wanted numbers 0 r.count run packed_shorten size right (omega arith) (omega (arith, w.0, r.below))
                (omega (arith, run-len.within)) in
                let m = repeat_of_run old run-len run-is more in
                let above = here.steps (element_of (RepeatRun run) wanted) m.element m.agrees in
                along_choice right m (omega arith) (grind (arith, next.1, m, r))
          ]
    ]

-- ---- methods 1 and 3

-- right numbers bound walks from places of the row
walk_bounds : {old row table : List ℕ} (es : List Element) {place : ℕ} → length old ≡ length row → AreRightFrom Delta old row table 0
    → place ≤ length row → Walk (StepsOver Delta old row) (NeedsNoMore old row) place es → slice_index table place ≤ total element_cost es
walk_bounds [] {place} size right within walk = omega (arith, (right place (omega arith) within).ends walk)
walk_bounds {old} {row} {table} (e ∷ es) {place} size right within walk =
    let inside = stop_within Delta old row place e size walk.1.element walk.1.agrees in
    let next = walk.1.next_is in
    grind (arith, (right place (omega arith) within).steps e walk.1.element walk.1.agrees, walk_bounds es size right (omega arith) walk.2)

pub along_run : {old wanted numbers : List ℕ} {end len : ℕ} → length old ≡ length wanted → AreRightFrom Runs old wanted numbers 0
    → IsRunEnd wanted 0 end → len ≡ min end 256 → IsShapeChoice Runs old wanted numbers (Run len) (2 + slice_index numbers len)
along_run {old} {wanted} {numbers} {end} {len} size right is len-is =
    let fall : (k : ℕ) → 1 ≤ k → k ≤ len → slice_index numbers len ≤ slice_index numbers k =
    λ k low high. falls Runs old wanted numbers 0 k len runs_shorten size right (omega arith) (omega arith) (omega (arith, is.within)) in
    runs_choice size (run_len_of end is (omega arith)) (grind (arith, is.after))

-- data is needed, so the rows differ
pub along_start : {old wanted numbers : List ℕ} {start : ℕ} → length old ≡ length wanted → AreRightFrom Delta old wanted numbers 0
    → 0 < slice_index numbers 0 → IsFirstDifference old wanted start → start < length wanted
along_start {old} {wanted} {start} size right needed is =
    grind (arith, (right 0 (omega arith) (omega arith)).ends, ends_by old wanted 0 size, is.same)

-- the best replacement at the latest start is a best element
pub along_replacement : {old wanted numbers : List ℕ} {start : ℕ} {shape : Shape} {sum : ℕ} → length old ≡ length wanted
    → length numbers ≡ length wanted + 1 → AreRightFrom Delta old wanted numbers 0 → 0 < slice_index numbers 0
    → IsFirstDifference old wanted start
    → IsReplacement start (length wanted) numbers shape sum → IsShapeChoice Delta old wanted numbers shape sum
along_replacement {old} {wanted} {numbers} {start} {shape} {sum} size long right needed is r =
    let inside : start < length wanted = along_start size right needed is in
    let latest : IsLatestStart old wanted 0 start =
    record { order = omega arith; within = inside; same = λ k low high. is.same k high; differs = is.differs (omega arith) } in
    let walk = attained_from (length wanted) size right (omega arith) (omega arith) in
    let s = latest_is_as_good old wanted walk.0 0 start size latest walk.1 in
    let d = delta_step size latest s.walk.1 in
    let at : (k : ℕ) → slice_index (drop start numbers) k ≡ slice_index numbers (start + k) = λ k. get_or-drop start numbers k 0 in
    let begins : offset_of s.first.head ≡ start = omega (arith, s.offset_is) in
    let there : s.walk.0 ≡ start + d.len = omega (arith, d.next_is, begins) in
    let rest = walk_bounds s.rest size right d.within s.walk.2 in
    let most : sum ≤ slice_index numbers 0 =
    let bound = r.best.least d.len d.some (omega (arith, d.few, d.within, there)) in
    omega (arith, bound, at d.len, rw begins at d.cost_is, rw there at rest, s.cheap, walk.2) in
    let len : ℕ = r.len in
    let e = replace_step old wanted start len r.best.above (omega (arith, r.best.below)) (omega (arith, r.best.below))
    (same_len_of size is).equal in
    let m : Element = element_of (Replace start len) wanted in
    let least = (right 0 (omega arith) (omega arith)).steps m e.element e.agrees in
    let equal : sum ≡ slice_index numbers 0 = grind (arith, most, least, e, r.best.sum_is, at len) in
    let first : slice_index numbers 0 ≡ replacement_bytes start + len + slice_index numbers (start + len) =
    omega (arith, equal, r.best.sum_is, at len) in
    let best = along_choice right e (omega (arith, r.best.above)) first in
    rw (r.step_is, equal) best
