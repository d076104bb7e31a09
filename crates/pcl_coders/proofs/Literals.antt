-- The best literal of a place, and the better of literals and repeats.
use Rattle.std.proofs.Common.{◌≡◌, ℕ, ◌+◌, ◌-◌, ◌*◌, ◌<◌, ◌≤◌, ◌⊎◌, min, List, length, set, drop, replicate, refl, inl, inr, arith}
use Rattle.pcl_coders.proofs.Names.{slice_index, cases_lt, length-drop, get_or-drop, run_part, Packed, IsRunEnd, IsLeastLen, AreRightFrom, HasZeros, IsLiteralEnd, HasLiteralEnd, Shape, IsShapeChoice, LiteralRun, RepeatRun}
use Rattle.pcl_coders.proofs.Prefixes.{run_len_of}
use Rattle.pcl_coders.proofs.Choices.{IsBelow, step_choice, repeat_step, literal_step, packed_below}
use Rattle.pcl_coders.proofs.Filling.{number_after}
use Rattle.pcl_coders.proofs.Places.{packed_shorten, longest_least, literal_bounds}

-- ---- where the best literal ends

-- the end of the next place's best literal is too far, or the next place is as good: it is the end of this one's
pub next_is_end : {table : List ℕ} {end place best : ℕ} → place < end → HasLiteralEnd table end (place + 1) best
    → (place + 128 < best) ⊎ (place + 1 + slice_index table (place + 1) ≤ best + slice_index table best)
    → IsLiteralEnd table end place (place + 1)
next_is_end {table} {end} {place} {best} inside has good = grind (arith, has.some, has.literals (place + 1) best)

-- at the end
pub has_no_literal : {table : List ℕ} {end : ℕ} → HasLiteralEnd table end end end
has_no_literal = grind arith

-- with numbers that are right
pub has_literal : {row first table : List ℕ} {end place best : ℕ} → HasZeros (replicate (length row) 0) row first end
    → AreRightFrom Packed (replicate (length row) 0) row table place → place < end → IsLiteralEnd table end place best
    → HasLiteralEnd table end place best
has_literal begun right inside is = record {
  literals = λ from to low more high near.
      let at : from + (to - from) ≡ to = omega arith in
      rw at at (literal_bounds from (to - from) (right from low (omega (arith, begun.first_end.within))) (omega arith) (omega arith)
      (omega (arith, begun.first_end.within)));
  last = λ at_end. absurd (omega arith);
  some = λ _. is;
}

-- a number is set at the place itself
pub end_of_set : {table : List ℕ} {end place best : ℕ} (number : ℕ) → IsLiteralEnd table end place best
    → IsLiteralEnd (set table place number) end place best
end_of_set {table} {place} {best} number is = grind (arith, is.least, is.first, number_after table place number)

-- ---- the better of literals and repeats

-- the best literal
pub literal_least : {row first table : List ℕ} {end place best number : ℕ} → HasZeros (replicate (length row) 0) row first end
    → AreRightFrom Packed (replicate (length row) 0) row table (place + 1) → IsLiteralEnd table end place best
    → number ≡ best - place + 1 + slice_index table best
    → IsLeastLen (drop place table) 1 (min (length (drop place row)) 128) 1 1 (best - place) number
literal_least {row} {table} {end} {place} {best} begun beyond is number-is =
    -- after the end the numbers are 0
    let zero = (beyond end (omega (arith, is.above, is.within)) begun.first_end.within).ends begun.first_end.ends in
    grind (arith, is.first, is.least, get_or-drop, length-drop place row, begun.first_end.within)

-- the better of both
pub packed_place : {row first table : List ℕ} {end place run_end best literal repeat number : ℕ}
    → HasZeros (replicate (length row) 0) row first end → length table ≡ length row + 1 → place < end
    → AreRightFrom Packed (replicate (length row) 0) row table (place + 1) → IsLiteralEnd table end place best → IsRunEnd row place run_end
    → literal ≡ best - place + 1 + slice_index table best → (run_end ≡ place + 1 → repeat ≡ 65535)
    → (place + 1 < run_end → repeat ≡ slice_index table (min run_end (place + 128)) + 2) → number ≡ min literal repeat
    → (shape : Shape) × IsShapeChoice Packed (drop place (replicate (length row) 0)) (drop place row) (drop place table) shape number
packed_place {row} {table} {place} {run_end} {best} {literal} {repeat} {number} begun size inside beyond is run literal-is none some
    number-is =
    let old : List ℕ = drop place (replicate (length row) 0) in
    let wanted : List ℕ = drop place row in
    let len : ℕ = min (run_end - place) 128 in
    let long = length-drop place row in
    let is-run = run_len_of (run_end - place) run (omega (arith, run.after)) in
    let at : min run_end (place + 128) ≡ place + len = omega (arith, run.after) in
    let repeat-is : place + 1 < run_end → repeat ≡ slice_index table (place + len) + 2 = rw at at some in
    let small = (beyond best (omega (arith, is.above)) (omega (arith, is.within, begun.first_end.within))).small in
    let l = literal_least begun beyond is literal-is in
    let repeats : (k : ℕ) → 2 ≤ k → k ≤ len → number ≤ 2 + 0 * k + slice_index (drop place table) k = λ k low high.
    let two : 2 ≤ len = omega arith in
    let longest = longest_least 128 packed_shorten begun.same_size beyond run (omega arith) two refl in
    omega (arith, longest.least k low high, repeat-is (omega arith)) in
    let below : IsBelow Packed old wanted (drop place table) number =
    packed_below old (drop place table) (omega (arith, length-drop {A = ℕ} place (replicate (length row) 0), long, begun.same_size)) is-run
    (λ k low high. omega (arith, l.least k low high)) repeats in
    elim (cases_lt repeat literal) [
      | inl better ↦
          let more : place + 1 < run_end = grind (arith, run.after, none, is.near, begun.small) in
          let alike = run_part wanted {len = len} (slice_index wanted 0) (omega arith) is-run.equal in
          let step = repeat_step old (omega arith) (omega arith) (omega (arith, is-run.within)) alike in
          (RepeatRun len, step_choice step (omega arith) (omega (arith, repeat-is more, get_or-drop place table len 0)) below)
      | inr worse ↦
          let step = literal_step old wanted (best - place) l.above (omega (arith, l.below)) (omega (arith, l.below)) in
          (LiteralRun (best - place), step_choice step (omega (arith, l.above)) (omega (arith, l.sum_is)) below)
    ]
