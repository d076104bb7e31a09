use Rattle.pcl_coders.proofs.Names.{attained_is_least}
use Rattle.pcl_coders.proofs.laws.numbers_are_least.Goals as goal

pub returns : goal.returns
returns c method seed row table place is within = attained_is_least is.table_is.feasible place (is.attained place within)
