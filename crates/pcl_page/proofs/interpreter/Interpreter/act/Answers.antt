use Rattle.pcl_page.proofs.Names.{refl}
use Rattle.pcl_page.proofs.Interpreted.{begin_acted, control_acted, execute_acted, call_acted}
use Rattle.pcl_page.proofs.interpreter.Interpreter.act.Goals as goal

pub returns-in-Execute : goal.returns-in-Execute
returns-in-Execute c = λ dpi s at. rw c.in-Execute.is
    (execute_acted at c.macro_id-id.ensures c.enter.new.self c.enter.result c.enter.ensures)

pub returns-in-Call : goal.returns-in-Call
returns-in-Call c = λ dpi s at. rw c.in-Call.is
    (call_acted at c.macro_id-id.ensures c.enter-in-Call.new.self c.enter-in-Call.result c.save-saved.ensures.kept c.enter-in-Call.ensures)

pub returns-in-Begin : goal.returns-in-Begin
returns-in-Begin c = λ dpi s at. rw c.in-Begin.is (begin_acted at c.macro_id-id.ensures c.args.place refl refl c.begin.ensures)

pub returns-in-Control : goal.returns-in-Control
returns-in-Control c = λ dpi s at. rw c.in-Control.is (control_acted at c.macro_id-id.ensures c.args.place refl refl c.control.ensures)
