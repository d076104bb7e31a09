use Rattle.pcl_same.proofs.DifferingDots.{more_drawn}
use Rattle.pcl_same.proofs.images.differing_dots.Goals as goal

pub loop-y-preserved : goal.loop-y-preserved
loop-y-preserved c =
    more_drawn c.args.one.now c.args.other.now c.loop-y.image c.loop-y.y _ c.loop-y.invariant c.paint_row.ensures.size
    c.paint_row.ensures.dpi (rw (← c.size-size.ensures.value, ← c.dpi-dpi.ensures.value) c.width.ensures)
    (λ x. rw (c.row.ensures.bytes, c.row-in-loop-y.ensures.bytes) at (c.differing_bits.ensures.bits x))
    (λ px py across down. rw c.from.ensures at (c.paint_row.ensures.dots px py across down))
