use Rattle.pcl_bitmap.proofs.Names.{is_black_ink}
use Rattle.pcl_bitmap.proofs.Inked.{AreInked}
use Rattle.pcl_bitmap.proofs.fills.fill_rows.Given as goal

-- the rows above are in place
abbrev pub invariant-loop-row : goal.invariant-loop-row
invariant-loop-row l =
    AreInked l.row_bytes l.initial.page l.page l.area.x l.area.y l.area.width l.area.height l.row (λ _ _ _. is_black_ink l.ink)
