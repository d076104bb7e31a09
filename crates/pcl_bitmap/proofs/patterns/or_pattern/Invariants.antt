use Rattle.std.proofs.Common.{◌≡◌, ℕ, ◌+◌, ◌<◌}
use Rattle.pcl_bitmap.proofs.Inked.{AreInked}
use Rattle.pcl_bitmap.proofs.Cut.{HasLine, line_or}
use Rattle.pcl_bitmap.proofs.patterns.or_pattern.Given as goal

-- the rows above are in place, and the dots are those of the line above
abbrev pub invariant-loop-row : goal.invariant-loop-row
invariant-loop-row l =
    let w = l.clip in record {
      rows : AreInked l.row_bytes l.initial.page l.page l.area.x l.area.y l.area.width l.area.height l.row
          (line_or l.rows l.area.x l.area.y w.x w.y w.scale w.row_bytes);
      held : (line : ℕ) → line + 1 + l.area.y ≡ l.row + w.y → l.area.y < l.row → HasLine l.dots l.rows line w.x w.scale w.row_bytes l.count;
    }
