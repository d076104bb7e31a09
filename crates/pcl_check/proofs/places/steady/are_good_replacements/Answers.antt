use Rattle.std.proofs.Common.{◌≡◌, ◌≢◌, ℕ, ◌+◌, ◌-◌, ◌<◌, ◌≤◌, arith}
use Rattle.pcl_check.proofs.Names.{slice_index, AreGoodReplacements}
use Rattle.pcl_check.proofs.PlacesFound.{from_before, down_to_first}
use Rattle.pcl_check.proofs.SteadyPlaces.{sums_of_front, replacements_by_start, replacements_before}
use Rattle.pcl_check.proofs.places.steady.are_good_replacements.Goals as goal

pub loop-place-preserved : goal.loop-place-preserved
loop-place-preserved c =
    let old = c.args.old.now in
    let row = c.args.row.now in
    let numbers = c.args.numbers.now in
    let end = c.args.end in
    let place : ℕ = c.loop-place.place - 1 in
    let start : ℕ = c.if-old-place.start in
    let after : place + 1 ≡ c.loop-place.place = omega (arith, c.loop-place-test.true) in
    let inside : place < end = omega (arith, after, c.loop-place.auto.place) in
    let is : (place ≤ start) × (start < end) × (slice_index old start ≢ slice_index row start) =
    grind (arith, c.if-old-place.branch, c.requires.end.needed, c.loop-place.invariant.order, c.loop-place.invariant.differs) in
    let front = sums_of_front c.requires.end c.requires.size c.fill_least_of_eight.ensures.sums in
    let here = replacements_by_start old row c.requires.steady front is.0 is.1 is.2
    (c.is_kept_before.ensures c.if-not-is_kept_before.false) in
    record {
      order = λ _. is.0;
      before = λ _. is.1;
      differs = λ _. is.2;
      good = from_before (AreGoodReplacements old row numbers) here (λ k low. c.loop-place.invariant.good k (omega (arith, after)));
    }

pub returns-then-fall_by_starts : goal.returns-then-fall_by_starts
returns-then-fall_by_starts c said =
    let front = sums_of_front c.requires.end c.requires.size c.fill_least_of_eight.ensures.sums in
    down_to_first (AreGoodReplacements c.args.old.now c.args.row.now c.args.numbers.now) c.args.end
    (λ k lt. replacements_before front lt (c.fall_by_starts.ensures c.if-fall_by_starts.true k lt))
    (λ k past offset len some few within alike. omega (arith, c.requires.steady.falls c.args.end k past, front.none))
