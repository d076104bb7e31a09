use Rattle.pcl_cert.proofs.ProvedLeast.{proved_least}
use Rattle.pcl_cert.proofs.check.laws.proved_texts_are_least.Goals as goal

pub returns : goal.returns
returns c = proved_least
