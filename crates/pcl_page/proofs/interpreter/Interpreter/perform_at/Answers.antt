use Rattle.pcl_page.proofs.Names.{view, run_of}
use Rattle.pcl_page.proofs.Progress.{stepped_on, stepped_stops, stepped_short, stepped_work, enters_few}
use Rattle.pcl_page.proofs.interpreter.Interpreter.perform_at.Goals as goal

pub returns-in-Ok-clause-done : goal.returns-in-Ok-clause-done
returns-in-Ok-clause-done g c = λ all s at.
    stepped_on _ _ all _ _ s c.args.self.now c.try_command.new.self _ _ (c.in-Ok.ensures s at)

pub returns-in-Ok-clause-no_more : goal.returns-in-Ok-clause-no_more
returns-in-Ok-clause-no_more g c = λ count.
    let t = c.in-Ok.ensures c.requires.somewhere.0 c.requires.somewhere.1 in
    stepped_work _ _ count _ _ _ c.args.self.now c.try_command.new.self c.requires.somewhere.1 t.1 t.2 t.3.0

pub returns-in-Ok-clause-few : goal.returns-in-Ok-clause-few
returns-in-Ok-clause-few g c =
    let t = c.in-Ok.ensures c.requires.somewhere.0 c.requires.somewhere.1 in
    enters_few (run_of (view c.args.command.now) c.requires.somewhere.0 t.0) c.args.self.now.running.items t.3 c.requires.few

pub returns-in-Err-Refused-clause-done : goal.returns-in-Err-Refused-clause-done
returns-in-Err-Refused-clause-done g c = λ all s at.
    stepped_stops _ _ all _ _ s c.args.self.now c.try_command.new.self _ _ _ _
    (rw c.in-Err-Refused.field-0-is at (c.in-Err-Refused.ensures s at)) c.new.ensures

pub returns-in-Err-Memory-clause-done : goal.returns-in-Err-Memory-clause-done
returns-in-Err-Memory-clause-done g c = λ all s at.
    stepped_short _ _ all _ _ s c.args.self.now c.try_command.new.self _ _ (rw c.in-Err-Memory.field-0-is at (c.in-Err-Memory.ensures s at))
