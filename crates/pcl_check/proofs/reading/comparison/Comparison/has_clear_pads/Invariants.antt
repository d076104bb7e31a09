use Rattle.std.proofs.Common.{◌≡◌, ◌<◌, ◌≤◌, ℕ, false}
use Rattle.pcl_check.proofs.Names.{page_width, dot_of_row}
use Rattle.pcl_check.proofs.reading.comparison.Comparison.has_clear_pads.Given as goal

-- the dots so far are white
abbrev pub invariant-loop-x : goal.invariant-loop-x
invariant-loop-x l = (x : ℕ) → page_width l.self.size l.self.bitmap.now.dpi ≤ x → x < l.x → dot_of_row l.row x ≡ false
