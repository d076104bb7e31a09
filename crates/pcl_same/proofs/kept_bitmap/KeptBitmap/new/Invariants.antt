use Rattle.std.proofs.Common.{◌≡◌, take}
use Rattle.pcl_same.proofs.Names.{page_row_bytes, picture_row_above}
use Rattle.pcl_same.proofs.KeptRows.{KeepsRows}
use Rattle.pcl_same.proofs.kept_bitmap.KeptBitmap.new.Given as goal

abbrev pub invariant-loop-y : goal.invariant-loop-y
invariant-loop-y l = record {
  keeps : KeepsRows l.bitmap l.data.items l.starts.items l.y;
  above : take (page_row_bytes l.bitmap.size l.bitmap.dpi) l.above ≡ picture_row_above l.bitmap l.y;
}
