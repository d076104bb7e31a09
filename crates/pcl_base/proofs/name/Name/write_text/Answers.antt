use Rattle.pcl_base.proofs.Names.{rules}
use Rattle.pcl_base.proofs.name.Name.write_text.Goals as goal

pub returns-in-One-eq32 : goal.returns-in-One-eq32
returns-in-One-eq32 c = search rules
