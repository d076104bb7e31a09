use Rattle.std.proofs.Common.{◌≡◌, Option, Some, refl, sym, subst, ◌∙◌, inl, inr}
use Rattle.pcl_page.proofs.Names.{Action, action_of, acted, lasting_by, run_by, IsActed}
use Rattle.pcl_page.proofs.Interpreted.{event_acted, acted_from}
use Rattle.pcl_page.proofs.interpreter.Interpreter.manage.Goals as goal

pub returns-in-Some : goal.returns-in-Some
returns-in-Some c = λ dpi s at. rw c.in-ControlMacros.is
    (let is : Some c.in-Some.action ≡ action_of c.args.value = sym c.in-Some.is ∙ c.action_of.ensures in
    let later = lasting_by (Some c.in-Some.action) s in
    let acts = acted_from dpi _ _ c.act.result c.note.new.self c.args.self.now c.act.new.self (sym c.note.ensures.rest.0)
    (c.act.ensures dpi later (c.note.ensures.situation dpi s at)) in
    subst (λ (a : Option Action). IsActed dpi (acted c.args.place a (lasting_by a s)) (run_by a) c.act.result c.args.self.now
    c.act.new.self) is acts)

pub returns-in-Reset : goal.returns-in-Reset
returns-in-Reset c = λ dpi s at.
    elim c.in-Reset.is [
      | inl e ↦ rw e (event_acted at refl refl c.control.ensures)
      | inr e ↦ rw e (event_acted at refl refl c.control.ensures)
    ]
