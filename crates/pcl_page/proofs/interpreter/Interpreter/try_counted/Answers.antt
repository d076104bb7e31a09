use Rattle.pcl_page.proofs.Names.{refl, err_from_is_err_and}
use Rattle.pcl_page.proofs.Interpreted.{counted_stepped, counted_unchecked}
use Rattle.pcl_page.proofs.interpreter.Interpreter.try_counted.Goals as goal

pub returns-in_err-operation : goal.returns-in_err-operation
returns-in_err-operation g c = λ s at.
    let p = err_from_is_err_and c.from_residual.result c.from_residual.ensures.1 in
    rw (p.1, p.2) (counted_unchecked _ _ _ _ s _ _ _ _ c.in_err-operation.field-0.0 (c.in_err-operation.ensures s at.is_in))

pub returns : goal.returns
returns g c = λ s at.
    counted_stepped _ _ _ _ s _ c.args.self.now
    (record { performer = c.try_command.new.self; macros = c.args.self.now.macros; running = c.args.self.now.running }) c.manage.new.self
    _ _ _ at (c.in_ok-operation.ensures s at.is_in) refl refl (λ t there. c.manage.ensures c.args.dpi t there)
