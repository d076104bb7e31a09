use Rattle.std.proofs.Common.{◌≡◌, take, map}
use Rattle.pcl_same.proofs.Names.{exit_of}
use Rattle.pcl_same.proofs.asking.exits_difference.Given as goal

abbrev pub invariant-loop-place : goal.invariant-loop-place
invariant-loop-place l = take l.place (map exit_of l.first) ≡ take l.place (map exit_of l.second)
