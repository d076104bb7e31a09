use Rattle.pcl_page.proofs.Names.{Dpi, drop, Situation, IsIn}
use Rattle.pcl_page.proofs.Printed.{IsPassedTo}
use Rattle.pcl_page.proofs.performer.Performer.pass_blanks.Given as goal

-- the codes so far were passed
abbrev pub invariant-loop-code : goal.invariant-loop-code
invariant-loop-code g l =
    (dpi : Dpi) (s : Situation) → IsIn dpi s l.fn.self → IsPassedTo dpi s l.codes (drop l.code-index l.codes) l.self
