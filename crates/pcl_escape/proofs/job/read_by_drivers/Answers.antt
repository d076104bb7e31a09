use Rattle.pcl_escape.proofs.ByDrivers.{reading_by_drivers}
use Rattle.pcl_escape.proofs.job.read_by_drivers.Goals as goal

pub returns : goal.returns
returns c = λ job commands reading. reading_by_drivers reading
