use Rattle.std.proofs.Common.{◌≡◌, ◌<◌, ◌+◌, ◌-◌, ℕ, min, length, refl, ◌∙◌, subst, arith}
use Rattle.pcl_coders.proofs.Names.{Runs, IsRunEnd, AreRightFrom, white_like}
use Rattle.pcl_coders.proofs.Places.{begun_right, place_done, runs_place, IsRunFrom, run_next}
use Rattle.pcl_coders.proofs.fill.fill_runs.Goals as goal

pub loop-place-init : goal.loop-place-init
loop-place-init c = record { right = begun_right c.requires; run = record { first = λ _. refl; run = λ none. absurd (omega arith) } }

pub loop-place-preserved : goal.loop-place-preserved
loop-place-preserved c =
    let row = c.args.row.now in
    let end = c.args.end in
    let place : ℕ = c.loop-place.place - 1 in
    let next : c.loop-place.place ≡ place + 1 = omega arith in
    let inside : place < end = omega (arith, c.loop-place.auto.place) in
    let size : length c.loop-place.out ≡ length row + 1 = c.loop-place.auto.out ∙ c.requires.size in
    let beyond = subst (AreRightFrom Runs (white_like row) row c.loop-place.out) next c.loop-place.invariant.right in
    let from = subst (λ (p : ℕ). IsRunFrom row end p c.loop-place.run_end) next c.loop-place.invariant.run in
    let run : IsRunEnd row place c.if-place-end.run_end = run_next c.requires inside from (grind (arith, c.if-place-end.branch))
    (grind (arith, c.if-place-end.branch)) (grind (arith, c.if-place-end.branch)) in
    let len : ℕ = min (c.if-place-end.run_end - place) 256 in
    let at : c.min.result ≡ place + len = omega (arith, c.min.ensures, run.after) in
    record {
      right = rw at (place_done c.requires size inside beyond (runs_place c.requires size inside beyond run refl)).0;
      run = record { first = λ at_end. absurd (omega arith); run = λ _. run };
    }
