use Rattle.std.proofs.Common.{◌≡◌, min, take}
use Rattle.pcl_check.proofs.Names.{number_of}
use Rattle.pcl_check.proofs.reading.parameter.number.Given as goal

-- the number of the digits so far, up to the limit
abbrev pub invariant-loop-digit : goal.invariant-loop-digit
invariant-loop-digit l = l.number ≡ min (number_of (take l.digit-index l.digits)) 65536
