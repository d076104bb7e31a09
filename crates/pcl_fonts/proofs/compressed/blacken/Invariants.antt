use Rattle.std.proofs.Common.{◌-◌}
use Rattle.pcl_fonts.proofs.Expanding.{IsBlackened}
use Rattle.pcl_fonts.proofs.compressed.blacken.Given as goal

abbrev pub invariant-loop-column : goal.invariant-loop-column
invariant-loop-column l = IsBlackened l.start l.end l.fn.row l.row l.column

abbrev pub decreases-loop-column : goal.decreases-loop-column
decreases-loop-column l = l.end - l.column
