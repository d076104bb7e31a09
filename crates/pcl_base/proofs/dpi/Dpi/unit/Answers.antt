use Rattle.pcl_base.proofs.Names.{rules}
use Rattle.pcl_base.proofs.dpi.Dpi.unit.Goals as goal

pub returns-in-Dpi300 : goal.returns-in-Dpi300
returns-in-Dpi300 c = search rules

pub returns-in-Dpi600 : goal.returns-in-Dpi600
returns-in-Dpi600 c = search rules
