use Rattle.pcl_check.proofs.Names.{bitmap_rows, AreRunEnds}
use Rattle.pcl_check.proofs.edges.fill_run_ends.Given as goal

abbrev pub invariant-loop-row : goal.invariant-loop-row
invariant-loop-row l = AreRunEnds (bitmap_rows l.bitmap) l.ends l.row
