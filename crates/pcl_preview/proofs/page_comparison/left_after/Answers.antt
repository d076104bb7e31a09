use Rattle.pcl_preview.proofs.Names.{Decides-eqb, strip_prefix_is}
use Rattle.pcl_preview.proofs.Comparings.{stripped}
use Rattle.pcl_preview.proofs.page_comparison.left_after.Goals as goal

pub returns-in-Some : goal.returns-in-Some
returns-in-Some c = rw c.in-Some.is (stripped _ _ _ (strip_prefix_is Decides-eqb _ _ _ c.strip_prefix.ensures.cases))
