use Rattle.std.proofs.Common.{◌≡◌, ◌≢◌, ℕ, ◌+◌, ◌-◌, ◌<◌, ◌≤◌, min, ap, arith}
use Rattle.pcl_check.proofs.Names.{slice_index, AreGoodRuns, FallsByRun}
use Rattle.pcl_check.proofs.PlacesFound.{from_before, down_to_first}
use Rattle.pcl_check.proofs.SteadyPlaces.{runs_by_stop, runs_before}
use Rattle.pcl_check.proofs.places.steady.are_good_runs.Goals as goal

pub loop-place-preserved : goal.loop-place-preserved
loop-place-preserved c =
    let row = c.args.row.now in
    let numbers = c.args.numbers.now in
    let place : ℕ = c.loop-place.place - 1 in
    let stop : ℕ = c.if-place-end.stop in
    let after : place + 1 ≡ c.loop-place.place = omega (arith, c.loop-place-test.true) in
    let is : (place < stop) × (stop ≤ c.args.end) × (stop < c.args.end → slice_index row (stop - 1) ≢ slice_index row stop) =
    grind (arith, c.if-place-end.branch, c.loop-place.invariant.breaks) in
    let kept : slice_index numbers place ≤ 2 + slice_index numbers (min stop (place + c.args.most)) =
    omega (arith, c.if-numbers-place.false, ap (slice_index numbers) c.min.ensures) in
    let here = runs_by_stop row stop c.requires.steady c.requires.end.1 is.0 is.1 is.2 kept in
    record {
      order = omega (arith, is.0);
      within = is.1;
      breaks = is.2;
      good = from_before (AreGoodRuns row numbers c.args.most) here (λ k low. c.loop-place.invariant.good k (omega (arith, after)));
    }

pub returns : goal.returns
returns c said =
    let from : ℕ = c.if-fall_by_runs.from in
    let falls : (k : ℕ) → k < from → FallsByRun c.args.row.now c.args.numbers.now k =
    λ k lt. c.fall_by_runs.ensures (grind (arith, c.if-fall_by_runs.branch)) k (grind (arith, c.if-fall_by_runs.branch)) in
    down_to_first (AreGoodRuns c.args.row.now c.args.numbers.now c.args.most) from (λ k lt. runs_before c.requires.steady (falls k lt))
    (λ k low. c.loop-place.invariant.good k (omega (arith, c.loop-place-test.false, low)))
