use Rattle.std.proofs.Common.{[], Ok, Err, refl, sym, append-nil, arith}
use Rattle.pcl_page.proofs.Names.{err_from_is_err_and}
use Rattle.pcl_page.proofs.Progress.{at_running, macro_goes}
use Rattle.pcl_page.proofs.interpreter.Interpreter.run_macros.Goals as goal

pub loop-macro_run-preserved : goal.loop-macro_run-preserved
loop-macro_run-preserved g c = (
  λ s at. macro_goes _ _ _ _ s (Ok tt) c.loop-macro_run.self _ c.go_on.new.self _ _ _ _ (c.loop-macro_run.invariant.0 s at)
      c.in-Some.ensures.items refl refl (λ now there. c.in_ok-go_on.ensures.done now there),
  c.in_ok-go_on.ensures.few,
)

pub returns-in_err-go_on-clause-done : goal.returns-in_err-go_on-clause-done
returns-in_err-go_on-clause-done g c = λ s at.
    let p = err_from_is_err_and c.from_residual.result c.from_residual.ensures.1 in
    rw (p.1, p.2) (macro_goes _ _ _ _ s (Err _) c.loop-macro_run.self _ c.go_on.new.self _ _ _ _ (c.loop-macro_run.invariant.0 s at)
    c.in-Some.ensures.items refl refl (λ now there. c.in_err-go_on.ensures.done now there))

pub loop-macro_run-init : goal.loop-macro_run-init
loop-macro_run-init g c = (λ s at. (s, at, ([], sym (append-nil s.pages), refl), refl), c.requires.few)

pub go_on-requires : goal.go_on-requires
go_on-requires g c =
    let i = c.loop-macro_run.invariant in
    let at = i.0 c.requires.somewhere.0 c.requires.somewhere.1 in
    λ _. ((refl, tt), (omega (arith, i.1, c.in-Some.ensures.len), (at.0, at_running refl refl at.1)))

pub loop-macro_run-smaller : goal.loop-macro_run-smaller
loop-macro_run-smaller g c = rw (sym c.in-Some.ensures.items) at c.in_ok-go_on.ensures.less

pub returns-clause-done : goal.returns-clause-done
returns-clause-done g c = λ s at.
    let b = c.loop-macro_run.invariant.0 s at in (b.0, at_running refl refl b.1, b.2, rw c.in_default.ensures.empty b.3)
