use Rattle.pcl_command.proofs.Names.{err_from_is_err_and, IsRefusalBy, TellsOfPages}
use Rattle.pcl_command.proofs.Written.{written, unwritten, undescribed}
use Rattle.pcl_command.proofs.running.describe.Goals as goal

pub returns-in_err-text : goal.returns-in_err-text
returns-in_err-text g c =
    let p = err_from_is_err_and c.from_residual.result c.from_residual.ensures.1 in
    let job = c.args.job.now in
    rw (p.1, p.2)
    (unwritten (TellsOfPages c.args.profile c.args.dpi job) (IsRefusalBy c.args.profile c.args.dpi job) _ _
    (undescribed c.args.profile c.args.dpi job c.in_err-text.field-0.0 c.in_err-text.ensures))

pub returns : goal.returns
returns g c =
    let job = c.args.job.now in
    written (TellsOfPages c.args.profile c.args.dpi job) (IsRefusalBy c.args.profile c.args.dpi job) _ _ _ c.in_ok-text.ensures
    (rw c.deref.ensures.value at c.write_all.ensures)
