use Rattle.pcl_base.proofs.Names.{rules}
use Rattle.pcl_base.proofs.method.Method.from_code.Goals as goal

pub returns-in-2 : goal.returns-in-2
returns-in-2 c = search rules
