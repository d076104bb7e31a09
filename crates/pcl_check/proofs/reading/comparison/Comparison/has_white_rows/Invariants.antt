use Rattle.std.proofs.Common.{◌≡◌, ◌-◌, take, drop, replicate}
use Rattle.pcl_check.proofs.Names.{page_row_bytes, bitmap_rows}
use Rattle.pcl_check.proofs.reading.comparison.Comparison.has_white_rows.Given as goal

abbrev pub invariant-loop-row : goal.invariant-loop-row
invariant-loop-row l = replicate (l.row - l.y) (replicate (page_row_bytes l.self.size l.self.bitmap.now.dpi) 0)
    ≡ take (l.row - l.y) (drop l.y (bitmap_rows l.self.bitmap.now))
