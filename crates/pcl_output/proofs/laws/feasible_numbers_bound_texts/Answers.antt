use Rattle.pcl_output.proofs.Texts.{text_bounded}
use Rattle.pcl_output.proofs.laws.feasible_numbers_bound_texts.Goals as goal

pub returns : goal.returns
returns c = text_bounded
