use Rattle.std.proofs.Common.{ℕ, ◌-◌, ◌≤◌, length, refl, below_more, arith}
use Rattle.pcl_check.proofs.Names.{iff_false, IsNotUndercut}
use Rattle.pcl_check.proofs.StepWindows.{window_begins, window_next, least_below, least_reached}
use Rattle.pcl_check.proofs.places.windows.first_undercut.Goals as goal
use Rattle.pcl_check.proofs.places.windows.first_undercut.Goals.{else-last-place-via-then-last-place+else-not-is_within, else-last-place-via-else-last-place}

pub loop-place-init : goal.loop-place-init
loop-place-init c = record {
  good = λ k lt. absurd (omega arith);
  window = window_begins c.new-window.ensures.numbers;
  room = omega (arith, c.new-window.ensures.room);
}

pub take-requires : goal.take-requires
take-requires c =
    (window_next c.requires.ends (omega (arith, c.loop-place-test.true)) c.requires.most.0 c.loop-place.invariant.window
    c.min-last.ensures c.put_sums.ensures.numbers refl).some

pub least-requires : goal.least-requires
least-requires c =
    let next = window_next c.requires.ends (omega (arith, c.loop-place-test.true)) c.requires.most.0 c.loop-place.invariant.window
    c.min-last.ensures c.put_sums.ensures.numbers c.take.ensures.numbers in
    omega (arith, next.size, c.if-last-place.true)

pub returns-then-not-is_within : goal.returns-then-not-is_within
returns-then-not-is_within c =
    let le : c.loop-place.place ≤ length c.args.numbers.now - 1 = omega (arith, c.loop-place-test.true) in
    let next = window_next c.requires.ends le c.requires.most.0 c.loop-place.invariant.window
    c.min-last.ensures c.put_sums.ensures.numbers c.take.ensures.numbers in
    let at = least_reached next c.least.ensures in
    record {
      within = le;
      is_bad = λ kept. iff_false c.is_within.ensures c.if-not-is_within.true
          (omega (arith, kept at.0 at.1 (omega (arith, at.2, c.min-last.ensures)) (omega (arith, at.2, c.min-last.ensures)), at.3));
      first = c.loop-place.invariant.good;
    }

pub loop-place-preserved : goal.loop-place-preserved
loop-place-preserved c =
    let place = c.loop-place.place in
    let next = window_next c.requires.ends (omega (arith, c.loop-place-test.true)) c.requires.most.0 c.loop-place.invariant.window
    c.min-last.ensures c.put_sums.ensures.numbers c.take.ensures.numbers in
    let Kept : ℕ → Type 0 = IsNotUndercut c.args.numbers.now c.args.sums.now c.args.ends.now c.args.cost c.args.most in
    let here : Kept place = elim c.else-last-place.branch [
      | else-last-place-via-then-last-place+else-not-is_within w ↦ λ stop past few within.
          grind (arith, w.is_within.ensures, w.if-not-is_within.false, least_below next w.least.ensures stop, c.min-last.ensures)
      | else-last-place-via-else-last-place w ↦ λ stop past few within. absurd (omega (arith, c.min-last.ensures, w.if-last-place.false))
    ] in
    record {
      good = below_more Kept place c.loop-place.invariant.good here;
      window = next.window;
      room = omega (arith, c.take.ensures.room, c.put_sums.ensures.room, c.loop-place.invariant.room, next.grows);
    }
