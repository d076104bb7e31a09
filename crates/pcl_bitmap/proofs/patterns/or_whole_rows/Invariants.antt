use Rattle.std.proofs.Common.{◌-◌, ◌+◌, ◌*◌, ◌||◌, drop}
use Rattle.pcl_bitmap.proofs.Names.{dot_of_row}
use Rattle.pcl_bitmap.proofs.Inked.{AreInked}
use Rattle.pcl_bitmap.proofs.patterns.or_whole_rows.Given as goal

-- the rows above are in place
abbrev pub invariant-loop-row : goal.invariant-loop-row
invariant-loop-row l =
    AreInked l.row_bytes l.initial.page l.page l.area.x l.area.y l.area.width l.area.height l.row
    (λ px py before. dot_of_row (drop ((py - l.area.y + l.clip.y) * l.clip.row_bytes) l.rows) (px - l.area.x) || before)
