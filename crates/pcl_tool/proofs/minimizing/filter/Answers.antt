use Rattle.pcl_tool.proofs.Names.{err_from_is_err_and}
use Rattle.pcl_tool.proofs.Filtered.{filtered, not_read, not_performed}
use Rattle.pcl_tool.proofs.minimizing.filter.Goals as goal

pub returns-in_err-job : goal.returns-in_err-job
returns-in_err-job g c =
    let p = err_from_is_err_and c.from_residual.result c.from_residual.ensures.1 in
    rw (p.1, p.2) (not_read c.args.dpi _ _ _ c.in_err-job.field-0.0 c.in_err-job.ensures)

pub returns-in_err-output : goal.returns-in_err-output
returns-in_err-output g c =
    let r = c.in_ok-job.ensures in
    let p = err_from_is_err_and c.from_residual-in_err-output.result c.from_residual-in_err-output.ensures.1 in
    rw (p.1, p.2) (not_performed c.args.dpi _ c.in_err-output.field-0.0 (record { given = r.0; ended = r.1 }) r.2
    (rw (c.deref.ensures.value, c.in_err-output.was) at c.least_job.ensures))

pub returns : goal.returns
returns g c =
    let r = c.in_ok-job.ensures in
    filtered _ _ _ (record { given = r.0; ended = r.1 }) (rw (c.deref.ensures.value, c.in_ok-output.was) at c.least_job.ensures)
    (rw c.deref-2.ensures.value at c.write_all.ensures)
