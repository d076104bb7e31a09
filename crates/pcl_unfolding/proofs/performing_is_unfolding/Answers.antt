use Rattle.pcl_unfolding.proofs.Unfolded.{performing_unfolded}
use Rattle.pcl_unfolding.proofs.performing_is_unfolding.Goals as goal

pub returns : goal.returns
returns c = performing_unfolded
