use Rattle.pcl_bitmap.proofs.KernelLanes.{first_set_is}
use Rattle.pcl_bitmap.proofs.kernels.first_set.Goals as goal

pub returns-clause-clear : goal.returns-clause-clear
returns-clause-clear c = (first_set_is c.ranges.mask.fits c.min.ensures).clear

pub returns-clause-set : goal.returns-clause-set
returns-clause-set c = (first_set_is c.ranges.mask.fits c.min.ensures).set
