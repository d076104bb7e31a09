use Rattle.pcl_fonts.proofs.Expanding.{AreBegun}
use Rattle.pcl_fonts.proofs.compressed.put_groups.Given as goal

abbrev pub invariant-loop-left : goal.invariant-loop-left
invariant-loop-left l = AreBegun l.width l.height l.bytes l.fn.rows.items l.rows.items l.rest l.left

abbrev pub decreases-loop-left : goal.decreases-loop-left
decreases-loop-left l = l.left
