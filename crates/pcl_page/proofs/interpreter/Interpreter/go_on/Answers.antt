use Rattle.std.proofs.Common.{◌≤◌, ◌++◌, ◌∷◌, [], length, refl, sym, arith, inl, inr, OnOk}
use Rattle.pcl_page.proofs.Names.{slice_get_within, on_ok_weaker, view, work_left}
use Rattle.pcl_page.proofs.Progress.{advanced, HasEnded, at_running, command_goes, end_goes, advanced_less, ended_less}
use Rattle.pcl_page.proofs.interpreter.Interpreter.go_on.Goals as goal
use Rattle.pcl_page.proofs.interpreter.Interpreter.go_on.Goals.{in_default-via-in-Some+else-place-newest, in_default-via-in_default}

pub returns-in-Some-clause-done : goal.returns-in-Some-clause-done
returns-in-Some-clause-done g c = λ s at.
    let all = g.L.CommandList.commands c.args.commands.now in
    command_goes _ _ all _ _ c.args.newest _ s _ _ _ _ c.requires.level (sym c.in-Some.ensures.command) c.if-place-newest.true
    c.push.ensures.items (c.perform_at.ensures.done all s (at_running refl refl at))

pub returns-in_default-clause-done : goal.returns-in_default-clause-done
returns-in_default-clause-done g c = λ s at.
    let all = g.L.CommandList.commands c.args.commands.now in
    let ended : HasEnded all c.args.newest =
    elim c.in_default.branch [
      | in_default-via-in-Some+else-place-newest w ↦ inr (omega (arith, w.if-place-newest.false))
      | in_default-via-in_default w ↦ inl (sym w.in_default.ensures.command)
    ] in
    end_goes _ _ all c.args.self.now _ c.args.newest s _ c.requires.level ended (c.leave.ensures.situation s at) c.leave.ensures.rest.0

pub returns-in_default-clause-less : goal.returns-in_default-clause-less
returns-in_default-clause-less g c =
    rw (c.leave.ensures.rest.0, c.leave.ensures.rest.1) (ended_less _ c.args.self.now.performer.performed _ c.args.newest)

pub returns-in-Some-clause-less : goal.returns-in-Some-clause-less
returns-in-Some-clause-less g c =
    let all = g.L.CommandList.commands c.args.commands.now in
    let count = length all in
    let less = advanced_less count c.args.self.now.performer.performed c.args.self.now.running.items c.args.newest
    (slice_get_within all c.args.newest.next (view c.in-Some.command) (sym c.in-Some.ensures.command)) in
    let new = work_left count c.perform_at.new.self.performer.performed c.perform_at.new.self.running.items in
    let middle = work_left count c.args.self.now.performer.performed (c.args.self.now.running.items ++ advanced c.args.newest ∷ []) in
    let more : OnOk c.perform_at.result (new ≤ middle) = rw c.push.ensures.items at (c.perform_at.ensures.no_more count) in
    on_ok_weaker c.perform_at.result (λ (le : new ≤ middle). omega (arith, le, less)) more
