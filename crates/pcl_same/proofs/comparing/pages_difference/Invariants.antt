use Rattle.pcl_same.proofs.Names.{take, AllByRecursion, IsAlike}
use Rattle.pcl_same.proofs.comparing.pages_difference.Given as goal

abbrev pub invariant-loop-before : goal.invariant-loop-before
invariant-loop-before l = AllByRecursion IsAlike (take l.before l.found)
