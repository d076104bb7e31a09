-- The numbers of places, one after the other from the row's end.
use Rattle.std.proofs.Common.{◌≡◌, ◌≢◌, ℕ, zero, suc, ◌+◌, ◌-◌, ◌*◌, ◌<◌, ◌≤◌, min, List, length, set, take, drop, replicate, refl, sym, ap, ◌∙◌, subst, inl, inr, arith}
use Rattle.pcl_coders.proofs.Names.{slice_index, cases_lt, nat_tests, drop-drop, length-drop, length-replicate, get_or-drop, get_or-set_same, run_from_rest, Method, Runs, Packed, Delta, IsRunEnd, offset_of, Element, IsElement, given, stop, Agrees, NeedsNoMore, element_cost, IsLatestStart, IsLeastLen, replacement_bytes, IsPlaceNumber, AreRightFrom, HasZeros, Shape, Run, LiteralRun, RepeatRun, Replace, element_of, IsShapeChoice}
use Rattle.pcl_coders.proofs.Shapes.{IsRepeat, runs_shape, packed_shape}
use Rattle.pcl_coders.proofs.Prefixes.{IsSameLen, run_len_of, same_len_of}
use Rattle.pcl_coders.proofs.Choices.{agrees_gives, HasShapeElement, run_step, repeat_step, literal_step, step_choice, replace_step, delta_below, runs_choice}
use Rattle.pcl_coders.proofs.Filling.{number_after, number_of_choice, choice_small, right_more, ends_here, ends_after}
use Rattle.pcl_coders.proofs.Ends.{ends_on, ends_at, white_byte}

-- ---- any method

pub begun_right : {method : Method} {old row table : List ℕ} {end : ℕ} → HasZeros old row table end → AreRightFrom method old row table end
begun_right {old} {row} begun q low high =
    let here = begun.zeros q low in let end : NeedsNoMore old row q = ends_on old row begun.first_end.ends low in grind arith

-- the best element of a place gives its number
pub place_done : {method : Method} {old row first table : List ℕ} {end place : ℕ} {shape : Shape} {sum : ℕ} → HasZeros old row first end
    → length table ≡ length row + 1 → place < end
    → AreRightFrom method old row table (place + 1) → IsShapeChoice method (drop place old) (drop place row) (drop place table) shape sum
    → AreRightFrom method old row (set table place sum) place × (sum ≤ 2 * (length row - place))
place_done {old} {row} {first} {table} {place} {sum} begun size inside beyond c =
    let within : place < length row = omega (arith, begun.first_end.within) in
    let small = choice_small old row table within c (beyond (place + 1) (omega arith) (omega arith)).small in
    let more : NeedsNoMore old row place → ⊥ = λ e. omega (arith, begun.first_end.first place e) in
    (right_more sum beyond (number_of_choice table within size more c small), small)

-- ---- methods 1 and 2: numbers never grow to the right

-- what follows the first byte of an element that repeats one
repeat_after : (wanted : List ℕ) (e : Element) {least most : ℕ} (r : IsRepeat e.head e.bytes least most) → offset_of e.head ≡ 0
    → given e ≡ take (length (given e)) (drop (offset_of e.head) wanted) → 1 < stop e
    → (r.count ≡ stop e) × (take (r.count - 1) (drop 1 wanted) ≡ replicate (r.count - 1) (slice_index (drop 1 wanted) 0))
repeat_after wanted e r none gives more =
    let size : length (given e) ≡ r.count = ap length r.given_is ∙ length-replicate r.count r.byte in
    let back : r.count - 1 + 1 ≡ r.count = omega arith in
    (omega arith, run_from_rest wanted r.byte (omega arith) (rw back (rw (none, size) at (sym gives) ∙ r.given_is)))

-- a method whose elements can be made shorter: one gives a byte less, one place further on
abbrev pub CanShorten : Method → Type 0
CanShorten method = (old wanted : List ℕ) (e : Element) → length old ≡ length wanted → IsElement method e → Agrees old wanted e
    → 1 < stop e → HasShapeElement method (drop 1 old) (drop 1 wanted) (stop e - 1) (element_cost e)

pub runs_shorten : CanShorten Runs
runs_shorten old wanted e size element agrees more =
    let s = runs_shape e.head element.head_is.method_is element.head_is.in_range element.complete in
    let g = agrees_gives old size element agrees in
    let b = repeat_after wanted e s.1 s.0 g.2 more in
    let step = run_step (drop 1 old) (omega arith) (omega (arith, s.1.below)) (omega (arith, g.0, length-drop 1 wanted)) b.1 in
    (Run (s.1.count - 1), 2, step, omega (arith, b.0), omega (arith, s.1.bytes_are))

pub packed_shorten : CanShorten Packed
packed_shorten old wanted e size element agrees more =
    let g = agrees_gives old size element agrees in
    let s = packed_shape e.head e.bytes element.head_is.method_is element.head_is.in_range element.complete (omega arith) in
    let size' = length-drop 1 wanted in
    let literal = λ (few : stop e ≤ 129).
    literal_step (drop 1 old) (drop 1 wanted) (stop e - 1) (omega arith) (omega arith) (omega (arith, g.0)) in
    elim s.1 [
      | inr l ↦ (LiteralRun (stop e - 1), 1 + (stop e - 1), literal (omega (arith, s.0, l.below)), refl, omega (arith, s.0, l.bytes_are))
      | inl r ↦
          let b = repeat_after wanted e r s.0 g.2 more in
          elim (cases_lt 2 r.count) [
            | inr short ↦ (LiteralRun (stop e - 1), 1 + (stop e - 1), literal (omega (arith, b.0)), refl, omega (arith, b.0, r.bytes_are))
            | inl long ↦
                let step = repeat_step (drop 1 old) (omega arith) (omega (arith, r.below)) (omega (arith, g.0)) b.1 in
                (RepeatRun (r.count - 1), 2, step, omega (arith, b.0), omega (arith, r.bytes_are))
          ]
    ]

falls_once : {method : Method} {old row table : List ℕ} {p : ℕ} → CanShorten method → length old ≡ length row
    → IsPlaceNumber method old row table p → IsPlaceNumber method old row table (p + 1) → slice_index table (p + 1) ≤ slice_index table p
falls_once {old} {row} {table} {p} shorten size here next =
    elim here.attained [
      | inl end ↦ omega (arith, next.ends (ends_after old row p end))
      | inr has ↦
          let e : Element = has.0 in
          elim (cases_lt 1 (stop e)) [
            | inr short ↦ let one : stop e ≡ 1 = omega (arith, has.1.goes_on) in omega (arith, rw one at has.1.number_is)
            | inl long ↦
                let d = shorten (drop p old) (drop p row) e (omega (arith, length-drop p old, length-drop p row)) has.1.element
                has.1.agrees long in
                let s = rw (drop-drop 1 p old, drop-drop 1 p row) at d.2 in
                grind (arith, next.steps (element_of d.0 (drop (p + 1) row)) s.element s.agrees, s, has.1, d.3)
          ]
    ]

pub falls : (method : Method) (old row table : List ℕ) (from p q : ℕ) → CanShorten method → length old ≡ length row
    → AreRightFrom method old row table from → from ≤ p → p ≤ q → q ≤ length row → slice_index table q ≤ slice_index table p
falls method old row table from p zero shorten size right low order high = grind arith
falls method old row table from p (suc q) shorten size right low order high =
    elim (cases_lt q p) [
      | inl same ↦ grind arith
      | inr more ↦
          let one = falls_once shorten size (right q (omega arith) (omega arith)) (right (q + 1) (omega arith) (omega arith)) in
          grind (arith, one, falls method old row table from p q shorten size right low more (omega arith))
    ]

-- no number is above what a literal gives
pub literal_bounds : {old row table : List ℕ} (from k : ℕ) → IsPlaceNumber Packed old row table from → 1 ≤ k → k ≤ 128
    → from + k ≤ length row → slice_index table from ≤ 1 + k + slice_index table (from + k)
literal_bounds {old} {row} from k is some few within =
    let s = literal_step (drop from old) (drop from row) k some few (omega (arith, length-drop from row)) in
    grind (arith, s, is.steps (element_of (LiteralRun k) (drop from row)) s.element s.agrees)

-- where numbers never grow to the right, the longest of the lengths within a run is the best
pub longest_least : {method : Method} {old row table : List ℕ} {place run_end from : ℕ} (most : ℕ) {len : ℕ} → CanShorten method
    → length old ≡ length row → AreRightFrom method old row table (place + 1) → IsRunEnd row place run_end → 1 ≤ from
    → from ≤ min (run_end - place) most → len ≡ min (run_end - place) most
    → IsLeastLen (drop place table) from (min (run_end - place) most) 2 0 len (slice_index table (place + len) + 2)
longest_least {method} {old} {row} {table} {place} most {len} shorten size beyond is some more len-is =
    let fall : (k : ℕ) → 1 ≤ k → k ≤ len → slice_index table (place + len) ≤ slice_index table (place + k) =
    λ k low high. falls method old row table (place + 1) (place + k) (place + len) shorten size beyond (omega arith) (omega arith)
    (omega (arith, is.within)) in
    grind (arith, get_or-drop)

-- the longest run is the best
pub runs_place : {old row first table : List ℕ} {end place run_end len : ℕ} → HasZeros old row first end → length table ≡ length row + 1
    → place < end → AreRightFrom Runs old row table (place + 1) → IsRunEnd row place run_end → len ≡ min (run_end - place) 256
    → IsShapeChoice Runs (drop place old) (drop place row) (drop place table) (Run len) (slice_index table (place + len) + 2)
runs_place {old} {row} {table} {place} {run_end} {len} begun size inside beyond is len-is =
    runs_choice (omega (arith, length-drop place old, length-drop place row, begun.same_size))
    (run_len_of (run_end - place) is (omega (arith, is.after)))
    (longest_least 256 runs_shorten begun.same_size beyond is (omega arith) (omega (arith, is.after)) len-is)

-- ---- runs, carried along from the right

-- as far as a place: the end of the run that it begins
pub record IsRunFrom (row : List ℕ) (end place run_end : ℕ) : Type 0 where
  pub first : place ≡ end → run_end ≡ end
  pub run : place < end → IsRunEnd row place run_end

-- the last byte that data is needed for differs
pub last_differs : {old row first : List ℕ} {end : ℕ} (place : ℕ) → HasZeros old row first end → place + 1 ≡ end
    → slice_index old place ≢ slice_index row place
last_differs {old} {row} {first} place begun last same =
    let beyond : NeedsNoMore old row (place + 1) = subst (NeedsNoMore old row) (sym last) begun.first_end.ends in
    let here : NeedsNoMore old row place = ends_here old row begun.same_size (omega (arith, begun.first_end.within)) (sym same) beyond in
    absurd (omega (arith, begun.first_end.first place here))

-- the last run ends where no more data is needed
pub run_last : {row first : List ℕ} {end place : ℕ} → HasZeros (replicate (length row) 0) row first end → place + 1 ≡ end
    → IsRunEnd row place end
run_last {row} {first} {end} {place} begun last = record {
  after = omega arith;
  within = begun.first_end.within;
  same = λ k low high. grind arith;
  differs = λ inside alike. last_differs place begun last (white_byte (length row) place ∙ sym (white_byte (length row) end)
      ∙ sym (ends_at (replicate (length row) 0) row end begun.first_end.ends (omega arith)) ∙ alike);
}

-- the end of a place's run: the next place, where that has another byte, and else the end of the run there
pub run_next : {row first : List ℕ} {end place run_end now : ℕ} → HasZeros (replicate (length row) 0) row first end → place < end
    → IsRunFrom row end (place + 1) run_end → (place + 1 < end → slice_index row place ≢ slice_index row (place + 1) → now ≡ place + 1)
    → (place + 1 < end → slice_index row place ≡ slice_index row (place + 1) → now ≡ run_end) → (end ≤ place + 1 → now ≡ run_end)
    → IsRunEnd row place now
run_next {row} {first} {end} {place} {run_end} begun inside next starts goes_on last =
    elim (cases_lt (place + 1) end) [
      | inr le ↦ let at : place + 1 ≡ end = omega arith in rw (last le, next.first at) (run_last begun at)
      | inl more ↦ let is = next.run more in grind (arith, is.same, starts, goes_on, begun.first_end.within)
    ]

-- ---- method 3: between two bytes that differ only the command grows

pub command_grows : (o l : ℕ) → o ≤ l → replacement_bytes l ≤ replacement_bytes o + (l - o)
command_grows o l order = grind (arith, nat_tests)

-- an element that stops before the latest start
pub command_joins : (o k l : ℕ) → 1 ≤ k → o + k ≤ l → replacement_bytes l ≤ replacement_bytes o + k + replacement_bytes (l - (o + k))
command_joins o k l some order = grind (arith, nat_tests)

-- as many bytes are left before the latest start as are the same
pub same_to_start : {old row : List ℕ} {place start : ℕ} → length old ≡ length row → IsLatestStart old row place start
    → IsSameLen (drop place old) (drop place row) (start - place)
same_to_start {old} {row} {place} {start} size is =
    same_len_of (omega (arith, length-drop place old, length-drop place row)) (grind (arith, get_or-drop, length-drop, is))

-- the least of the replaced bytes and the number after them, where a replacement starts at a place
pub record IsLeastAfter (table : List ℕ) (start most best : ℕ) : Type 0 where
  pub len : ℕ
  pub above : 1 ≤ len
  pub below : len ≤ most
  pub best_is : best ≡ len + slice_index table (start + len)
  pub least : (k : ℕ) → 1 ≤ k → k ≤ most → best ≤ k + slice_index table (start + k)

-- the latest start after a place, the best after it, and the numbers from some place up to it
pub record IsNextStart (old row table : List ℕ) (from place start best : ℕ) : Type 0 where
  pub latest : IsLatestStart old row place start
  pub beyond : IsLeastAfter table start (min (length row - start) 8) best
  pub numbers : (q : ℕ) → from ≤ q → q ≤ start → slice_index table q ≡ replacement_bytes (start - q) + best

-- the latest start is as good as any earlier one
pub delta_place : {old row first table : List ℕ} {end place start best : ℕ} → HasZeros old row first end → length table ≡ length row + 1
    → place < end → IsNextStart old row table (place + 1) place start best
    → (len : ℕ) × IsShapeChoice Delta (drop place old) (drop place row) (drop place table) (Replace (start - place) len)
    (replacement_bytes (start - place) + best)
delta_place {old} {row} {table} {place} {start} {best} begun size inside next =
    let last : ℕ = start - place in
    let is = next.latest in
    let b = next.beyond in
    let long = length-drop place row in
    let same = same_to_start begun.same_size is in
    let sum-is : replacement_bytes last + best ≡ replacement_bytes last + b.len + slice_index (drop place table) (last + b.len) =
    grind (arith, b.best_is, is.order, get_or-drop place table (last + b.len) 0) in (
      b.len,
      step_choice (replace_step (drop place old) (drop place row) last b.len b.above (omega (arith, b.below))
          (omega (arith, b.below, long, is.order)) same.equal) (omega (arith, b.above)) sum-is
          (delta_below (drop place table) (omega (arith, length-drop place old, long, begun.same_size)) same (λ o k low some few.
          let at : slice_index (drop o (drop place table)) k ≡ slice_index table (place + o + k) =
          rw drop-drop (get_or-drop (place + o) table k 0) in
          grind (arith, next.numbers (place + o + k), b.least (o + k - last), command_joins o k last some, command_grows o last))),
    )

-- the place's own number is set
pub next_start_set : {old row table : List ℕ} {place start best : ℕ} → length table ≡ length row + 1 → place < length row
    → IsNextStart old row table (place + 1) place start best
    → IsNextStart old row (set table place (replacement_bytes (start - place) + best)) place place start best
next_start_set {table} {place} {start} {best} size inside next =
    grind (arith, next.beyond.least, next.numbers, next.latest.order, get_or-set_same, number_after table place)

-- one place to the left, where the byte there is that of the row before
pub next_start_stays : {old row table : List ℕ} {place start best : ℕ} → IsNextStart old row table (place + 1) (place + 1) start best
    → slice_index old place ≡ slice_index row place → IsNextStart old row table (place + 1) place start best
next_start_stays next same = grind (arith, next.latest.same)

-- where it differs
pub next_start_here : {old row table : List ℕ} {place best len : ℕ} → length table ≡ length row + 1 → place < length row
    → slice_index old place ≢ slice_index row place → IsLeastLen (drop place table) 1 (min (length (drop place table) - 1) 8) 0 1 len best
    → IsNextStart old row table (place + 1) place place best
next_start_here {table} {place} {len} size inside differs is = grind (arith, is.least, get_or-drop place table, length-drop place table)
