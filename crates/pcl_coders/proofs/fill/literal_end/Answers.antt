use Rattle.pcl_coders.proofs.Names.{arith}
use Rattle.pcl_coders.proofs.Literals.{next_is_end}
use Rattle.pcl_coders.proofs.fill.literal_end.Goals as goal

pub returns-else-best-place : goal.returns-else-best-place
returns-else-best-place c end inside has = next_is_end inside has (grind (arith, c.else-best-place.branch))
