use Rattle.std.proofs.Common.{◌-◌, ◌||◌}
use Rattle.pcl_bitmap.proofs.Names.{dot_of_row}
use Rattle.pcl_bitmap.proofs.Inked.{AreInked}
use Rattle.pcl_bitmap.proofs.squares.or_rows.Given as goal

-- the rows above are in place
abbrev pub invariant-loop-row : goal.invariant-loop-row
invariant-loop-row l =
    AreInked l.row_bytes l.initial.page l.page l.area.x l.area.y l.area.width l.area.height l.row
    (λ px _ before. dot_of_row l.source (px - l.area.x) || before)
