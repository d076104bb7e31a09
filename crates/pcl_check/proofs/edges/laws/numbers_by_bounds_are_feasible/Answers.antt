use Rattle.pcl_check.proofs.GoodNumbers.{numbers_by_bounds}
use Rattle.pcl_check.proofs.edges.laws.numbers_by_bounds_are_feasible.Goals as goal

pub returns : goal.returns
returns c = numbers_by_bounds
