use Rattle.pcl_bitmap.proofs.Names.{arith, nat_tests}
use Rattle.pcl_bitmap.proofs.bits.or_part.Goals as goal

pub loop-i-preserved : goal.loop-i-preserved
loop-i-preserved c k = grind (arith, nat_tests, c.or_byte.ensures k, c.loop-i.invariant k)
