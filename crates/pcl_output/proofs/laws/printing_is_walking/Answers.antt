use Rattle.pcl_output.proofs.Texts.{walk_of_prints, prints_of_walk}
use Rattle.pcl_output.proofs.laws.printing_is_walking.Goals as goal

pub returns : goal.returns
returns c = λ width rows tokens are. (walk_of_prints width rows tokens are, prints_of_walk width rows tokens are)
