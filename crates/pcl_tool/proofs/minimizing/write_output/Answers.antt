use Rattle.pcl_tool.proofs.Names.{List, ℕ, Err, subst, arith, err_from_is_err_and, IsWritten}
use Rattle.pcl_tool.proofs.Filtered.{stopped_in_job, output_written}
use Rattle.pcl_tool.proofs.minimizing.write_output.Goals as goal

pub returns-in_err-write_all : goal.returns-in_err-write_all
returns-in_err-write_all g c =
    let p = err_from_is_err_and c.from_residual.result c.from_residual.ensures.1 in
    rw (p.1, p.2)
    (stopped_in_job _ _ _ _ _ _ (omega (arith, c.if-len-limit.false, c.len.ensures))
    (subst (λ (job : List ℕ). IsWritten (g.W.Write.contents c.args.out.now) (g.W.Write.contents c.write_all.new.out) job
    (Err c.in_err-write_all.field-0.0)) c.deref.ensures.value c.in_err-write_all.ensures))

pub returns : goal.returns
returns g c =
    output_written _ _ _ _ _ _ _ (omega (arith, c.if-len-limit.false, c.len.ensures))
    (rw c.deref.ensures.value at c.in_ok-write_all.ensures)
    (rw c.deref-2.ensures.value at c.write_all-2.ensures)
