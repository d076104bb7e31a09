use Rattle.std.proofs.Common.{arith}
use Rattle.pcl_fonts.proofs.Expanding.{blackened_more}
use Rattle.pcl_fonts.proofs.compressed.blacken.Goals as goal

pub loop-column-preserved : goal.loop-column-preserved
loop-column-preserved c =
    blackened_more c.min-count.result c.ones.result c.loop-column.invariant c.loop-column.auto.row c.loop-column-test.true
    (omega (arith, c.min-count.ensures)) (omega (arith, c.min-count.ensures)) (omega (arith, c.min-count.ensures)) c.requires.room
    c.ones.ensures
