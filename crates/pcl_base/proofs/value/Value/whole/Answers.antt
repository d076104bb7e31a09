use Rattle.pcl_base.proofs.Names.{rules}
use Rattle.pcl_base.proofs.value.Value.whole.Goals as goal

pub returns-in-Minus : goal.returns-in-Minus
returns-in-Minus c = search rules
