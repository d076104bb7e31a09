use Rattle.std.proofs.Common.{◌≡◌, ◌++◌}
use Rattle.pcl_preview.specs.Greymap.{pixels_of_row}
use Rattle.pcl_preview.proofs.greymap.append_row.Given as goal

-- the pixels to the left are appended
abbrev pub invariant-loop-column : goal.invariant-loop-column
invariant-loop-column l = l.image.items ≡ l.fn.image.items ++ pixels_of_row l.bitmap l.side l.fn.row l.column
