use Rattle.pcl_bitmap.proofs.Names.{arith, nat_tests}
use Rattle.pcl_bitmap.proofs.fills.fill_bits.Goals as goal

pub returns-clause-bits : goal.returns-clause-bits
returns-clause-bits c k = grind (arith, nat_tests, c.fill_in_byte.ensures k, c.fill_bytes.ensures k, c.fill_in_byte-2.ensures k)
