use Rattle.pcl_rows.proofs.Decoded.{decoded_is}
use Rattle.pcl_rows.proofs.laws.row_is_decoded.Goals as goal

pub returns : goal.returns
returns c = decoded_is
