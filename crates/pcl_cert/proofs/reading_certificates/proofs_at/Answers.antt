use Rattle.pcl_cert.proofs.Names.{err_from_is_err_and}
use Rattle.pcl_cert.proofs.Loops.{goes_on, fails, ends}
use Rattle.pcl_cert.proofs.PagesRead.{proofs_are_many}
use Rattle.pcl_cert.proofs.reading_certificates.proofs_at.Goals as goal

pub returns-in_err-proof : goal.returns-in_err-proof
returns-in_err-proof c =
    let p = err_from_is_err_and c.from_residual.result c.from_residual.ensures.1 in
    rw (p.1, p.2) (fails (proofs_are_many c.args.dpi c.args.format) c.loop.invariant c.in_err-proof.field-0.0 c.loop-test.true
    c.in_err-proof.ensures)

pub loop-preserved : goal.loop-preserved
loop-preserved c =
    rw c.in_ok-push.ensures.items
    (goes_on (proofs_are_many c.args.dpi c.args.format) c.loop.invariant c.in_ok-proof.proof c.in_ok-proof.after.now
    c.loop-test.true c.in_ok-proof.ensures)

pub returns : goal.returns
returns c = ends (proofs_are_many c.args.dpi c.args.format) c.loop.invariant c.loop-test.false
