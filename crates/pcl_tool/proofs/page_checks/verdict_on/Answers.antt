use Rattle.pcl_tool.proofs.Names.{refl}
use Rattle.pcl_tool.proofs.page_checks.verdict_on.Goals as goal

pub returns-in-Proved : goal.returns-in-Proved
returns-in-Proved c = rw (c.as_ref.ensures.value, c.in-Proved.is) at c.in_ok-verdict.ensures

pub returns-in_default : goal.returns-in_default
returns-in_default c = (refl, rw c.as_ref.ensures.value at c.in_ok-verdict.ensures, c.in_default.not-Proved)
