use Rattle.pcl_coders.proofs.Names.{Plain, AreRightFrom, white_like}
use Rattle.pcl_coders.proofs.fill.fill_plain.Given as goal

abbrev pub invariant-loop-place : goal.invariant-loop-place
invariant-loop-place l = AreRightFrom Plain (white_like l.row) l.row l.out l.place
