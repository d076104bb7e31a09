use Rattle.pcl_coders.proofs.Filling.{first_is_least}
use Rattle.pcl_coders.proofs.laws.first_number_is_least.Goals as goal

pub returns : goal.returns
returns c = first_is_least
