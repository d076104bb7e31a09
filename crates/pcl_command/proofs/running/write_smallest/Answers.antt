use Rattle.pcl_command.proofs.Names.{err_from_is_err_and, Keeps-refl, IsRefusedEverywhereUnder, IsWrittenEverywhereUnder}
use Rattle.pcl_command.proofs.Written.{written, unwritten, unshrunk_everywhere, written_everywhere_under}
use Rattle.pcl_command.proofs.running.write_smallest.Goals as goal

pub returns-in_err-shrunk : goal.returns-in_err-shrunk
returns-in_err-shrunk g c =
    let p = err_from_is_err_and c.from_residual.result c.from_residual.ensures.1 in
    let job = c.args.job.now in
    let how = c.args.how in
    rw (p.1, p.2)
    (unwritten (IsWrittenEverywhereUnder how.readers how.profiles job) (IsRefusedEverywhereUnder how.profiles job) _ _
    (unshrunk_everywhere how.readers how.profiles job c.in_err-shrunk.field-0.0 c.in_err-shrunk.ensures))

pub returns-in_err-report_shrunk : goal.returns-in_err-report_shrunk
returns-in_err-report_shrunk g c =
    let p = err_from_is_err_and c.from_residual-in_err-report_shrunk.result c.from_residual-in_err-report_shrunk.ensures.1 in
    rw (p.1, p.2) (Keeps-refl _)

pub returns : goal.returns
returns g c =
    let job = c.args.job.now in
    let how = c.args.how in
    written (IsWrittenEverywhereUnder how.readers how.profiles job) (IsRefusedEverywhereUnder how.profiles job) _ _ _
    (written_everywhere_under how.readers how.profiles job c.in_ok-shrunk.shrunk c.in_ok-shrunk.ensures)
    (rw c.deref.ensures.value at c.write_all.ensures)
