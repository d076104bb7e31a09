use Rattle.std.proofs.Common.{length}
use Rattle.pcl_fonts.proofs.Expanding.{IsBegun}
use Rattle.pcl_fonts.proofs.compressed.put_row.Given as goal

abbrev pub invariant-loop-column : goal.invariant-loop-column
invariant-loop-column l = IsBegun l.width l.bytes l.row l.rest l.column l.is_black

abbrev pub decreases-loop-column : goal.decreases-loop-column
decreases-loop-column l = length l.rest
