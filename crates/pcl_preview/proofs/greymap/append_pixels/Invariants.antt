use Rattle.std.proofs.Common.{◌≡◌, ◌++◌}
use Rattle.pcl_preview.proofs.Names.{page_width, squares_for}
use Rattle.pcl_preview.specs.Greymap.{pixels_of}
use Rattle.pcl_preview.proofs.greymap.append_pixels.Given as goal

-- the rows above are appended
abbrev pub invariant-loop-row : goal.invariant-loop-row
invariant-loop-row l =
    l.image.items ≡ l.fn.image.items ++ pixels_of l.bitmap l.side (squares_for (page_width l.bitmap.size l.bitmap.dpi) l.side) l.row
