use Rattle.pcl_page.proofs.Names.{drop, font_in_use, Situation, prints, IsIn, IsLastInked}
use Rattle.pcl_page.proofs.Printed.{IsPrintedTo}
use Rattle.pcl_page.proofs.performer.Performer.print_codes.Given as goal

-- the codes so far were printed, and what the last one printed is inked
abbrev pub invariant-loop-code : goal.invariant-loop-code
invariant-loop-code g l =
    (s : Situation) → IsIn l.dpi s l.fn.self → IsPrintedTo l.dpi l.font s l.codes (drop l.code-index l.codes) l.self
    × IsLastInked l.dpi l.font (prints s.fonts (font_in_use s.settings)) l.last l.self
