use Rattle.std.proofs.Common.{◌≡◌, ℕ, ◌<◌, take}
use Rattle.pcl_same.proofs.Names.{page_row_bytes, picture_row_above, MakesRow, data_of}
use Rattle.pcl_same.proofs.kept_bitmap.KeptBitmap.first_dot.Given as goal

abbrev pub invariant-loop-y : goal.invariant-loop-y
invariant-loop-y l = record {
  above : take (page_row_bytes l.other.size l.other.dpi) l.above ≡ picture_row_above l.other l.y;
  makes : (k : ℕ) → k < l.y → MakesRow l.other k (data_of l.self k);
}
