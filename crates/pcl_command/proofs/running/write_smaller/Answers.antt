use Rattle.pcl_command.proofs.Names.{err_from_is_err_and, IsRefusalBy, IsWrittenUnder, widest_of}
use Rattle.pcl_command.proofs.Written.{written, unwritten, unshrunk, written_under}
use Rattle.pcl_command.proofs.running.write_smaller.Goals as goal

pub returns-in_err-shrunk : goal.returns-in_err-shrunk
returns-in_err-shrunk g c =
    let p = err_from_is_err_and c.from_residual.result c.from_residual.ensures.1 in
    let job = c.args.job.now in
    let how = c.args.how in
    rw (p.1, p.2)
    (unwritten (IsWrittenUnder how.readers how.profiles c.args.dpi job) (IsRefusalBy (widest_of how.profiles) c.args.dpi job) _ _
    (unshrunk how.readers how.profiles c.args.dpi job c.in_err-shrunk.field-0.0 c.in_err-shrunk.ensures))

pub returns : goal.returns
returns g c =
    let job = c.args.job.now in
    let how = c.args.how in
    written (IsWrittenUnder how.readers how.profiles c.args.dpi job) (IsRefusalBy (widest_of how.profiles) c.args.dpi job) _ _ _
    (written_under how.readers how.profiles c.args.dpi job c.in_ok-shrunk.shrunk c.in_ok-shrunk.ensures)
    (rw c.deref.ensures.value at c.write_all.ensures)
