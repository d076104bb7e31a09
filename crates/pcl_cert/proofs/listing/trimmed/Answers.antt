use Rattle.std.proofs.Common.{◌-◌, arith}
use Rattle.pcl_cert.proofs.Names.{nat_tests}
use Rattle.pcl_cert.proofs.KeptLists.{trimmed_is}
use Rattle.pcl_cert.proofs.listing.trimmed.Goals as goal

pub returns : goal.returns
returns c = trimmed_is c.loop-len.invariant.0 c.loop-len.invariant.1 (λ some. grind (arith, nat_tests, c.loop-len-test.branch))
