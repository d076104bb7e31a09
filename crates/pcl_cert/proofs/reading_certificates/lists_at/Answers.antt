use Rattle.pcl_cert.proofs.Names.{arith, err_from_is_err_and, list_at}
use Rattle.pcl_cert.proofs.Loops.{fails, ends}
use Rattle.pcl_cert.proofs.PagesRead.{lists_are_many}
use Rattle.pcl_cert.proofs.Lists.{next_list, after_ok, after_fails}
use Rattle.pcl_cert.proofs.reading_certificates.lists_at.Goals as goal

pub returns-in_err-rest : goal.returns-in_err-rest
returns-in_err-rest c =
    let p = err_from_is_err_and c.from_residual-in_err-rest.result c.from_residual-in_err-rest.ensures.1 in
    rw (p.1, p.2) (fails (lists_are_many c.args.most) c.loop.invariant.read c.in_err-rest.field-0.0 c.loop-test.true
    (after_fails c.in_err-rest.field-0.0 (list_at c.args.most c.loop.rest.now) c.in_err-rest.ensures))

pub loop-preserved : goal.loop-preserved
loop-preserved c =
    let list = after_ok (list_at c.args.most c.loop.rest.now) c.in_ok-rest.rest.now c.in_ok-rest.ensures in
    rw c.in_ok-push.ensures.items (next_list list.0 c.in_ok-rest.rest.now c.loop-test.true list.1 c.loop.invariant)

pub within-requires-clause-rows : goal.within-requires-clause-rows
within-requires-clause-rows c = (c.args.rows, c.requires, omega (arith, c.loop.invariant.many, c.loop-test.false, c.loop.auto.counter-end))

pub returns : goal.returns
returns c = rw c.within.ensures (ends (lists_are_many c.args.most) c.loop.invariant.read c.loop-test.false)
