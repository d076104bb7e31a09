use Rattle.pcl_same.proofs.ByDrivers.{told_by_stated}
use Rattle.pcl_same.proofs.jobs.same_asked.Goals as goal

pub returns-in-Stated : goal.returns-in-Stated
returns-in-Stated c =
    rw c.in-Stated.is (told_by_stated c.args.dpi c.args.first.now c.args.second.now c.same_by.result c.same_by.ensures)
