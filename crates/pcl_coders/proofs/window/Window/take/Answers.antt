use Rattle.std.proofs.Common.{◌<◌, drop, sym, ap, ◌∙◌, arith}
use Rattle.pcl_coders.proofs.Names.{drop-drop, Numbers}
use Rattle.pcl_coders.proofs.Queues.{length-in_window, queue_take}
use Rattle.pcl_coders.proofs.window.Window.take.Goals as goal

pub invariant_of-self : goal.invariant_of-self
invariant_of-self c =
    let a = c.self.inside in
    let some : a.taken < a.put =
    omega (arith, rw (← c.self.view_is) at c.requires, length-in_window a.numbers.now a.taken a.put c.self.invariant.put_within) in
    queue_take c.self.invariant some (grind (arith, c.if-self.branch)) (grind (arith, c.if-self.branch))

pub returns-clause-numbers : goal.returns-clause-numbers
returns-clause-numbers c = sym (drop-drop 1 c.self.inside.taken _) ∙ ap (λ (v : Numbers). drop 1 v.numbers) c.self.view_is
