use Rattle.pcl_output.proofs.Texts.{text_of_least}
use Rattle.pcl_output.proofs.laws.least_walk_is_least_text.Goals as goal

pub returns : goal.returns
returns c = text_of_least
