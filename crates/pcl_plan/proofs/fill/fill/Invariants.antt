use Rattle.pcl_plan.proofs.Names.{rows_of, IsWhiteRun, AreRowsRightFrom}
use Rattle.pcl_plan.proofs.fill.fill.Given as goal

abbrev pub invariant-loop-row : goal.invariant-loop-row
invariant-loop-row g l = record {
  right : AreRowsRightFrom l.rows.width (rows_of l.rows) l.table l.row;
  run : IsWhiteRun (rows_of l.rows) l.row l.run;
}
