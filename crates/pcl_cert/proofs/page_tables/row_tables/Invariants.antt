use Rattle.pcl_cert.proofs.Names.{HoldsRowsOf}
use Rattle.pcl_cert.proofs.page_tables.row_tables.Given as goal

abbrev pub invariant-loop-row : goal.invariant-loop-row
invariant-loop-row l = HoldsRowsOf l.page.bitmap l.row l.lists
