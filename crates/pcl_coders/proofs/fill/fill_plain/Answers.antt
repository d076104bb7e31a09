use Rattle.std.proofs.Common.{drop, ◌≡◌, ◌<◌, ◌+◌, ◌-◌, ℕ, length, ◌∙◌, subst, arith}
use Rattle.pcl_coders.proofs.Names.{slice_index, length-drop, get_or-drop, Plain, AreRightFrom, white_like}
use Rattle.pcl_coders.proofs.Choices.{plain_choice}
use Rattle.pcl_coders.proofs.Places.{begun_right, place_done}
use Rattle.pcl_coders.proofs.fill.fill_plain.Goals as goal

pub loop-place-init : goal.loop-place-init
loop-place-init c = begun_right c.requires

pub loop-place-preserved : goal.loop-place-preserved
loop-place-preserved c =
    let row = c.args.row.now in
    let out = c.loop-place.out in
    let place : ℕ = c.loop-place.place - 1 in
    let next : c.loop-place.place ≡ place + 1 = omega arith in
    let inside : place < c.args.end = omega (arith, c.loop-place.auto.place) in
    let size : length out ≡ length row + 1 = c.loop-place.auto.out ∙ c.requires.size in
    let at : slice_index out (place + 1) + 1 ≡ 1 + slice_index (drop place out) 1 = omega (arith, get_or-drop place out 1 0) in
    let choice = plain_choice (omega (arith, c.requires.first_end.within, length-drop place row)) in
    rw at (place_done c.requires size inside (subst (AreRightFrom Plain (white_like row) row out) next c.loop-place.invariant) choice).0
