use Rattle.std.proofs.Common.{◌-◌, length, arith, refl, sym, ◌∙◌}
use Rattle.pcl_escape.proofs.Names.{step_view}
use Rattle.pcl_escape.proofs.Loop.{one_more, stops_at, is_done}
use Rattle.pcl_escape.proofs.Places.{step_placed}
use Rattle.pcl_escape.proofs.job.scan.Given.{Over}
use Rattle.pcl_escape.proofs.job.scan.Goals as goal
use Rattle.pcl_escape.proofs.job.scan.Goals.{After-read_step, then-not-is_empty, else-not-is_empty+then-is_some}
use Rattle.pcl_escape.proofs.Again.{step_shorter, GoesOn}

-- what the loop's test says
more_to_read : (g : Over) (c : After-read_step g) → GoesOn c.loop-inside.inside c.loop-inside.rest.now
more_to_read g c = elim c.if-not-is_empty.branch [
  | then-not-is_empty w ↦ rw (← w.if-not-is_empty.ensures) refl
  | else-not-is_empty+then-is_some w ↦ rw (← w.if-not-is_empty.ensures, ← w.if-is_some.ensures) refl
]

pub returns-in-Err : goal.returns-in-Err
returns-in-Err g c =
    let goes = more_to_read g (goal.at.returns-in-Err g c).After-read_step in
    sym c.loop-inside.invariant.same ∙ stops_at c.args.profile (g.S.CommandStore.kept c.args.job.now c.loop-inside.store)
    (length c.args.job.now) c.loop-inside.inside c.loop-inside.rest.now goes c.in-Err.ensures

pub loop-inside-smaller : goal.loop-inside-smaller
loop-inside-smaller g c =
    let goes = more_to_read g (goal.at.loop-inside-smaller g c).After-read_step in
    step_shorter c.args.profile c.loop-inside.inside (length c.args.job.now - length c.loop-inside.rest.now)
    c.loop-inside.rest.now goes c.in-Ok.ensures

pub append-requires : goal.append-requires
append-requires g c =
    let placed = step_placed c.args.profile c.loop-inside.inside _ (step_view c.in-Ok.step)
    c.loop-inside.invariant.is_end c.in-Ok.ensures in
    λ _. ((refl, tt), placed.0)

pub loop-inside-preserved : goal.loop-inside-preserved
loop-inside-preserved g c =
    let goes = more_to_read g (goal.at.loop-inside-preserved g c).After-read_step in
    let shorter = step_shorter c.args.profile c.loop-inside.inside _ c.loop-inside.rest.now goes c.in-Ok.ensures in
    let within = c.loop-inside.invariant.within in
    let read = step_view c.in-Ok.step in
    record {
      within = omega arith;
      same = rw c.in_ok-append.ensures (one_more c.args.profile (g.S.CommandStore.kept c.args.job.now c.loop-inside.store)
          (length c.args.job.now)
          c.loop-inside.inside c.loop-inside.rest.now read within goes c.in-Ok.ensures ∙ c.loop-inside.invariant.same);
      is_end = (step_placed c.args.profile c.loop-inside.inside _ read c.loop-inside.invariant.is_end c.in-Ok.ensures).1;
    }

pub returns : goal.returns
returns g c = sym c.loop-inside.invariant.same ∙ is_done c.args.profile (g.S.CommandStore.kept c.args.job.now c.loop-inside.store)
    (length c.args.job.now) c.loop-inside.inside c.loop-inside.rest.now c.if-not-is_empty.ensures c.if-is_some.ensures

pub read_step-requires : goal.read_step-requires
read_step-requires g c = let within = c.loop-inside.invariant.within in omega arith
