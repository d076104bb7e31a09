use Rattle.std.proofs.Common.{◌≡◌, ◌∷◌, ◌+◌, [], List, ℕ, Some, drop, refl, sym, arith, add-one}
use Rattle.pcl_page.proofs.Names.{slice_get, slice_get_within, err_from_is_err_and, Said}
use Rattle.pcl_page.proofs.Jobs.{command_stopped, macros_stopped, macros_reached, end_reached}
use Rattle.pcl_page.proofs.Progress.{got_there, past_end}
use Rattle.pcl_page.proofs.interpreter.Interpreter.perform_all.Goals as goal

-- the next command and those after it
next_is : (all : List Said) (i : ℕ) {command : Said} → Some command ≡ slice_get all i → drop i all ≡ command ∷ drop (i + 1) all
next_is all i got = rw add-one (got_there all i (sym got))

pub loop-command-preserved : goal.loop-command-preserved
loop-command-preserved g c =
    let all = g.L.CommandList.commands c.args.commands.now in
    let r = rw (next_is all c.loop-command.place c.in-Some.ensures.command) at c.loop-command.invariant in
    macros_reached _ _ _ all _ _ _ _ _ _ _ r _ _ _ _ (c.in_ok-perform_at.ensures.done all r.situation r.is_at)
    (λ s at. c.in_ok-run_macros.ensures.done s at) c.in_ok-run_macros.ensures.idle

pub returns-in_err-perform_at : goal.returns-in_err-perform_at
returns-in_err-perform_at g c =
    let all = g.L.CommandList.commands c.args.commands.now in
    let r = rw (next_is all c.loop-command.place c.in-Some.ensures.command) at c.loop-command.invariant in
    let p = err_from_is_err_and c.from_residual.result c.from_residual.ensures.1 in
    rw (p.1, p.2) (command_stopped _ _ _ all _ _ _ _ _ _ _ r _ _ _ (c.in_err-perform_at.ensures.done all r.situation r.is_at), tt)

pub run_macros-requires : goal.run_macros-requires
run_macros-requires g c =
    let on = c.in_ok-perform_at.ensures.done [] c.loop-command.invariant.situation c.loop-command.invariant.is_at in
    λ _. ((refl, tt), ((on.0, on.1), c.in_ok-perform_at.ensures.few))

pub returns-in_err-run_macros : goal.returns-in_err-run_macros
returns-in_err-run_macros g c =
    let all = g.L.CommandList.commands c.args.commands.now in
    let r = rw (next_is all c.loop-command.place c.in-Some.ensures.command) at c.loop-command.invariant in
    let p = err_from_is_err_and c.from_residual-in_err-run_macros.result c.from_residual-in_err-run_macros.ensures.1 in
    let on = c.in_ok-perform_at.ensures.done all r.situation r.is_at in
    rw (p.1, p.2) (macros_stopped _ _ _ all _ _ _ _ _ _ _ r _ _ _ _ _ on (λ s at. c.in_err-run_macros.ensures.done s at), tt)

pub returns : goal.returns
returns g c =
    let all = g.L.CommandList.commands c.args.commands.now in
    let done = past_end all c.loop-command.place (sym c.in_default.ensures.command) in
    end_reached _ _ _ all _ c.loop-command.place _ _ _ _ _ _ (rw done at c.loop-command.invariant) (λ dpi s at. c.finish.ensures dpi s at)

pub loop-command-smaller : goal.loop-command-smaller
loop-command-smaller g c =
    omega (arith, slice_get_within (g.L.CommandList.commands c.args.commands.now) c.loop-command.place _ (sym c.in-Some.ensures.command))
