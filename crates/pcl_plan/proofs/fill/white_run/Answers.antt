use Rattle.std.proofs.Common.{◌≡◌, true, false, subst, arith}
use Rattle.pcl_plan.proofs.Names.{IsTrue, length_rows, run_more, run_none}
use Rattle.pcl_plan.proofs.fill.white_run.Goals as goal

pub overflow_add-result : goal.overflow_add-result
overflow_add-result c =
    let rows = c.args.rows.now in omega (arith, c.requires.below.within, length_rows rows.count rows.width rows.bytes.now, rows.few)

pub returns-then-is_white : goal.returns-then-is_white
returns-then-is_white c =
    let rows = c.args.rows.now in
    let count = length_rows rows.count rows.width rows.bytes.now in
    record {
      run = run_more (omega (arith, c.requires.row, count)) c.requires.below (c.is_white.ensures.0 c.if-is_white.true);
      within = omega (arith, c.requires.below.within, count);
    }

pub returns-else-is_white : goal.returns-else-is_white
returns-else-is_white c =
    let rows = c.args.rows.now in
    let count = length_rows rows.count rows.width rows.bytes.now in
    record {
      run = run_none (omega (arith, c.requires.row, count))
          (λ white. (let no : false ≡ true = subst IsTrue c.if-is_white.false (c.is_white.ensures.1 white) in absurd cc));
      within = omega arith;
    }
