use Rattle.std.proofs.Common.{◌≡◌, ◌<◌, ◌≤◌, ◌+◌, ◌-◌, ◌*◌, ℕ, length, set, ◌∙◌, subst, arith}
use Rattle.pcl_coders.proofs.Names.{take_rest, Delta, AreRightFrom, replacement_bytes}
use Rattle.pcl_coders.proofs.Places.{IsNextStart, begun_right, place_done, delta_place, next_start_set, next_start_stays, next_start_here, last_differs}
use Rattle.pcl_coders.proofs.fill.fill_delta.Goals as goal
use Rattle.pcl_coders.proofs.fill.fill_delta.Goals.{then-old-place, else-old-place}

pub loop-place-init : goal.loop-place-init
loop-place-init c = record { right = begun_right c.requires; next = λ none. absurd (omega arith) }

-- the next start of a place, and what its number then is: right, and small
placed : (c : goal.After-row_known-in-loop-place-1)
    → IsNextStart c.args.old.now c.args.row.now c.loop-place.out (c.loop-place.place - 1 + 1) (c.loop-place.place - 1) c.if-old-place.start
    c.if-old-place.best × AreRightFrom Delta c.args.old.now c.args.row.now (set c.loop-place.out (c.loop-place.place - 1)
    (replacement_bytes (c.if-old-place.start - (c.loop-place.place - 1)) + c.if-old-place.best)) (c.loop-place.place - 1)
    × (replacement_bytes (c.if-old-place.start - (c.loop-place.place - 1)) + c.if-old-place.best
    ≤ 2 * (length c.args.row.now - (c.loop-place.place - 1)))
placed c =
    let row = c.args.row.now in
    let out = c.loop-place.out in
    let place : ℕ = c.loop-place.place - 1 in
    let after : c.loop-place.place ≡ place + 1 = omega arith in
    let inside : place < c.args.end = omega (arith, c.loop-place.auto.place) in
    let size : length out ≡ length row + 1 = c.loop-place.auto.out ∙ c.requires.size in
    let next : IsNextStart c.args.old.now row out (place + 1) place c.if-old-place.start c.if-old-place.best =
    elim c.if-old-place.branch [
      | then-old-place w ↦
          let e = rw (take_rest out place) at w.least_after-best.ensures in
          rw (w.start-is, w.best-is) (next_start_here size (omega (arith, c.requires.first_end.within)) w.if-old-place.true e.1)
      | else-old-place w ↦
          let last : place + 1 ≡ c.args.end → ⊥ = λ e. last_differs place c.requires e w.if-old-place.false in
          let more : place + 1 < c.args.end = omega (arith, last) in
          rw (w.start-is, w.best-is)
          (next_start_stays (rw after at (c.loop-place.invariant.next (omega (arith, more)))) w.if-old-place.false)
    ] in
    let beyond = subst (AreRightFrom Delta c.args.old.now row out) after c.loop-place.invariant.right in
    let done = place_done c.requires size inside beyond (delta_place c.requires size inside next).1 in
    (next, done.0, done.1)

pub overflow_add-out : goal.overflow_add-out
overflow_add-out c = omega (arith, (placed c).2, c.command_bytes.ensures, c.requires.small)

pub overflow_cast-out : goal.overflow_cast-out
overflow_cast-out c = omega (arith, (placed c).2, c.command_bytes.ensures, c.requires.small)

pub loop-place-preserved : goal.loop-place-preserved
loop-place-preserved c =
    let p = placed c in
    let inside : c.loop-place.place - 1 < length c.args.row.now = omega (arith, c.loop-place.auto.place, c.requires.first_end.within) in
    record {
      right = rw c.command_bytes.ensures p.1;
      next = λ _. rw c.command_bytes.ensures (next_start_set (c.loop-place.auto.out ∙ c.requires.size) inside p.0);
    }
