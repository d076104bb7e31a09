use Rattle.pcl_command.proofs.Names.{err_from_is_err_and, IsRefusal, IsWrittenJob}
use Rattle.pcl_command.proofs.Written.{written, unwritten}
use Rattle.pcl_command.proofs.running.write_least.Goals as goal

pub returns-in_err-least : goal.returns-in_err-least
returns-in_err-least g c =
    let p = err_from_is_err_and c.from_residual.result c.from_residual.ensures.1 in
    let job = c.args.job.now in
    rw (p.1, p.2) (unwritten (IsWrittenJob c.args.dpi job) (IsRefusal c.args.dpi job) _ c.in_err-least.field-0.0 c.in_err-least.ensures)

pub returns : goal.returns
returns g c =
    let job = c.args.job.now in
    written (IsWrittenJob c.args.dpi job) (IsRefusal c.args.dpi job) _ _ _ c.in_ok-least.ensures
    (rw c.deref.ensures.value at c.write_all.ensures)
