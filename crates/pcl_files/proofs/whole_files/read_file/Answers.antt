use Rattle.pcl_files.proofs.Names.{inr}
use Rattle.pcl_files.proofs.whole_files.read_file.Goals as goal

pub returns-in-Ok : goal.returns-in-Ok
returns-in-Ok g c = inr (_, _, c.in-Ok.ensures.opened, c.read_all.ensures)
