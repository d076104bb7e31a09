use Rattle.std.proofs.Common.{◌∷◌, [], arith}
use Rattle.pcl_cert.proofs.Names.{err_from_is_err_and, length-append}
use Rattle.pcl_cert.proofs.Loops.{goes_on, fails, ends}
use Rattle.pcl_cert.proofs.PagesRead.{tables_are_many}
use Rattle.pcl_cert.proofs.reading_certificates.table_at.Goals as goal

pub returns-in_err-row : goal.returns-in_err-row
returns-in_err-row c =
    let p = err_from_is_err_and c.from_residual.result c.from_residual.ensures.1 in
    rw (p.1, p.2) (fails tables_are_many c.loop.invariant.0 c.in_err-row.field-0.0 c.loop-test.true c.in_err-row.ensures)

pub loop-preserved : goal.loop-preserved
loop-preserved c =
    rw c.in_ok-push.ensures.items (
      goes_on tables_are_many c.loop.invariant.0 c.in_ok-row.row c.in_ok-row.after.now c.loop-test.true c.in_ok-row.ensures,
      omega (arith, c.loop.invariant.1, length-append c.loop.numbers.items (c.in_ok-row.row ∷ [])),
    )

pub returns : goal.returns
returns c = rw c.of.ensures (ends tables_are_many c.loop.invariant.0 c.loop-test.false)
