use Rattle.pcl_plan.proofs.Names.{arith, length_rows}
use Rattle.pcl_plan.proofs.rows.Rows.white_run.Goals as goal

pub returns-after-loop-run-clause-run : goal.returns-after-loop-run-clause-run
returns-after-loop-run-clause-run c =
    let rows = c.args.self.now in
    let count = length_rows rows.count rows.width rows.bytes.now in
    record {
      within = omega (arith, count, c.loop-run.invariant.within);
      white = c.loop-run.invariant.white;
      longest = λ before white. absurd (omega (arith, count, c.loop-run-test.false));
    }
