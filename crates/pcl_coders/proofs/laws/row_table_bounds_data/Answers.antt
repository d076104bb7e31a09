use Rattle.pcl_coders.proofs.Filling.{first_bounds}
use Rattle.pcl_coders.proofs.laws.row_table_bounds_data.Goals as goal

pub returns : goal.returns
returns c = first_bounds
