use Rattle.pcl_bitmap.proofs.Names.{arith, nat_tests}
use Rattle.pcl_bitmap.proofs.Bytes.{bit_of_byte-leading, bit_of_byte-all}
use Rattle.pcl_bitmap.proofs.bits.leading_ones.Goals as goal

pub returns-then-count-lt8 : goal.returns-then-count-lt8
returns-then-count-lt8 c = λ k h. bit_of_byte-leading (omega arith) h

pub returns-else-count-lt8 : goal.returns-else-count-lt8
returns-else-count-lt8 c = λ k h. grind (arith, nat_tests, bit_of_byte-all h)
