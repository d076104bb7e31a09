use Rattle.pcl_shrink.proofs.Smaller.{input_best}
use Rattle.pcl_shrink.proofs.Shorter.{keeps_best}
use Rattle.pcl_shrink.proofs.shrinking.looked_at.Goals as goal

pub returns-in-Some : goal.returns-in-Some
returns-in-Some c = λ kept. keeps_best _ _ (input_best _ kept) (c.shorter.ensures kept)

pub returns-in-None : goal.returns-in-None
returns-in-None c = λ kept. input_best _ kept
