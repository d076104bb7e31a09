use Rattle.std.proofs.Common.{◌-◌}
use Rattle.pcl_coders.proofs.Names.{IsLeastLen}
use Rattle.pcl_coders.proofs.choice.LeastLen.among.Given as goal

abbrev pub invariant-loop-len : goal.invariant-loop-len
invariant-loop-len l = IsLeastLen l.numbers l.from (l.len - 1) l.head l.each l.best.len l.best.sum
