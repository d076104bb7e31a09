use Rattle.std.proofs.Common.{◌≡◌, ◌+◌, ◌-◌, ◌<◌, ℕ, length, sym, subst, ◌∙◌, arith}
use Rattle.pcl_plan.proofs.Names.{rows_of, AreRowsRightFrom, length_rows, no_rows, run_end, white_to_end}
use Rattle.pcl_plan.proofs.Filled.{IsPut, put_white, put_inked, put_last}
use Rattle.pcl_plan.proofs.fill.fill.Goals as goal
use Rattle.pcl_plan.proofs.fill.fill.Goals.{then-row-run, else-row-run}

pub loop-row-init : goal.loop-row-init
loop-row-init g c =
    let rows = c.args.rows.now in
    let count = length_rows rows.count rows.width rows.bytes.now in
    let put : IsPut c.args.table.now c.put.new.self rows.count c.at_end.result =
    record { size = c.put.ensures.rows; changed = c.put.ensures.changed; others = c.put.ensures.others } in
    record {
      right = put_last (sym count) (omega (arith, c.requires, count)) (rw c.at_end.ensures at put)
          (no_rows rows.count rows.count rows.width rows.bytes.now (omega arith));
      run = run_end (sym count);
    }

pub loop-row-preserved : goal.loop-row-preserved
loop-row-preserved g c =
    let rows = c.args.rows.now in
    let count = length_rows rows.count rows.width rows.bytes.now in
    let row : ℕ = c.loop-row.row - 1 in
    let after : c.loop-row.row ≡ row + 1 = omega arith in
    let beyond = subst (AreRowsRightFrom rows.width (rows_of rows) c.loop-row.table) after c.loop-row.invariant.right in
    let put : IsPut c.loop-row.table c.put-in-loop-row.new.self row c.if-row-run.numbers = record {
      size = c.put-in-loop-row.ensures.rows;
      changed = c.put-in-loop-row.ensures.changed;
      others = c.put-in-loop-row.ensures.others;
    } in
    let run = c.white_run-run.ensures.run in
    record {
      right = elim c.if-row-run.branch [
        | then-row-run w ↦
            let inside : row < length (rows_of rows) = omega (arith, count, c.loop-row-test.true, c.loop-row.auto.row) in
            put_white inside (rw (w.numbers-is, w.at_end-numbers.ensures) at put) beyond (white_to_end run (w.if-row-run.true ∙ sym count))
        | else-row-run w ↦
            let ink : row + c.white_run-run.result < length (rows_of rows) = omega
            (arith, count, w.if-row-run.false, c.white_run-run.ensures.within) in
            put_inked (rw w.numbers-is at put) beyond (omega (arith, count, rows.few)) run ink w.row_numbers-numbers.ensures
      ];
      run = run;
    }
