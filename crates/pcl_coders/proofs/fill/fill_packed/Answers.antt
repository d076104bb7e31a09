use Rattle.std.proofs.Common.{◌≡◌, ◌<◌, ◌+◌, ◌-◌, ℕ, length, refl, ◌∙◌, subst, arith}
use Rattle.pcl_coders.proofs.Names.{Packed, IsRunEnd, AreRightFrom, HasLiteralEnd, white_like}
use Rattle.pcl_coders.proofs.Places.{begun_right, place_done, IsRunFrom, run_next}
use Rattle.pcl_coders.proofs.Literals.{has_no_literal, has_literal, end_of_set, packed_place}
use Rattle.pcl_coders.proofs.fill.fill_packed.Goals as goal

pub loop-place-init : goal.loop-place-init
loop-place-init c = record {
  right = begun_right c.requires;
  run = record { first = λ _. refl; run = λ none. absurd (omega arith) };
  literal = has_no_literal;
}

pub loop-place-preserved : goal.loop-place-preserved
loop-place-preserved c =
    let row = c.args.row.now in
    let end = c.args.end in
    let out = c.loop-place.out in
    let place : ℕ = c.loop-place.place - 1 in
    let after : c.loop-place.place ≡ place + 1 = omega arith in
    let inside : place < end = omega (arith, c.loop-place.auto.place) in
    let size : length out ≡ length row + 1 = c.loop-place.auto.out ∙ c.requires.size in
    let beyond = subst (AreRightFrom Packed (white_like row) row out) after c.loop-place.invariant.right in
    let has = subst (λ (at : ℕ). HasLiteralEnd out end at c.loop-place.best) after c.loop-place.invariant.literal in
    let is = c.literal_end-best.ensures end inside has in
    let from = subst (λ (p : ℕ). IsRunFrom row end p c.loop-place.run_end) after c.loop-place.invariant.run in
    let run : IsRunEnd row place c.if-place-end.run_end = run_next c.requires inside from (grind (arith, c.if-place-end.branch))
    (grind (arith, c.if-place-end.branch)) (grind (arith, c.if-place-end.branch)) in
    let choice = packed_place c.requires size inside beyond is run refl c.repeat_number.ensures.none
    c.repeat_number.ensures.some c.min.ensures in
    let right = (place_done c.requires size inside beyond choice.1).0 in
    record {
      right = right;
      run = record { first = λ at_end. absurd (omega arith); run = λ _. run };
      literal = has_literal c.requires right inside (end_of_set c.min.result is);
    }
