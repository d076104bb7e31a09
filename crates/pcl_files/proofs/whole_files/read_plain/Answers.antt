use Rattle.pcl_files.proofs.Names.{inr}
use Rattle.pcl_files.proofs.whole_files.read_plain.Goals as goal

pub returns : goal.returns
returns g c = inr (_, _, c.in-Ok.ensures.opened, c.read_all.ensures)
