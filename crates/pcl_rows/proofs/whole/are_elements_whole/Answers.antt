use Rattle.std.proofs.Common.{◌<◌, length, sym, refl, ◌∙◌, arith}
use Rattle.pcl_rows.proofs.Names.{eqb-false, IsWhole}
use Rattle.pcl_rows.proofs.Readings.{whole_more, whole_past, whole_cut}
use Rattle.pcl_rows.proofs.whole.are_elements_whole.Goals as goal
use Rattle.pcl_rows.proofs.whole.are_elements_whole.Goals.{then-not-front-via-then-not-front, then-not-front-via-else-not-front+then-room-stop}

pub loop-rest-preserved : goal.loop-rest-preserved
loop-rest-preserved c = whole_more (rw c.if-not-front.false at c.read-front.ensures.front) refl c.if-room-stop.false c.loop-rest.invariant

pub returns-then-not-front : goal.returns-then-not-front
returns-then-not-front c =
    let rest = c.loop-rest.rest.now in
    let some : 0 < length rest = omega (arith, eqb-false (length rest) 0 (sym c.is_empty.ensures ∙ c.loop-rest-test.true)) in
    let never : IsWhole c.args.method rest c.loop-rest.room → ⊥ =
    elim c.then-not-front.branch [
      | then-not-front-via-then-not-front w ↦ λ h. whole_cut some (rw w.if-not-front.true at c.read-front.ensures.front) h
      | then-not-front-via-else-not-front+then-room-stop w ↦
          λ h. whole_past (rw w.if-not-front.false at c.read-front.ensures.front) refl w.if-room-stop.true h
    ] in
    (λ t. absurd cc, λ h. absurd (never (c.loop-rest.invariant.0 h)))
