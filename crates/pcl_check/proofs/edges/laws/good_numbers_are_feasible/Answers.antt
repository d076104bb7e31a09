use Rattle.pcl_check.proofs.Names.{node_number}
use Rattle.pcl_check.proofs.GoodNumbers.{good_feasible, feasible_good}
use Rattle.pcl_check.proofs.edges.laws.good_numbers_are_feasible.Goals as goal

pub returns : goal.returns
returns c = λ width rows table few size. (good_feasible width table few size, feasible_good width (node_number table) few)
