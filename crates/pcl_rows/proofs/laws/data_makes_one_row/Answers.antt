use Rattle.pcl_rows.proofs.Names.{base}
use Rattle.pcl_rows.proofs.OneReading.{one_row}
use Rattle.pcl_rows.proofs.laws.data_makes_one_row.Goals as goal

pub returns : goal.returns
returns c = λ method seed bytes row other. one_row method bytes (base method seed) row other
