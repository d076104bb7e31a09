use Rattle.std.proofs.Common.{bit_and, ◌-◌, ap, arith}
use Rattle.pcl_bitmap.proofs.Names.{nat_tests, and_le_l, is_black_ink}
use Rattle.pcl_bitmap.proofs.Bytes.{bit_of_byte-or, bit_of_byte-and, bit_of_byte-not}
use Rattle.pcl_bitmap.proofs.Runs.{mask_bit}
use Rattle.pcl_bitmap.proofs.fills.ink_byte.Goals as goal

pub returns-in-Black : goal.returns-in-Black
returns-in-Black c k small =
    let mask = mask_bit c.leading_ones.result c.leading_ones-2.result c.args.from c.args.end k c.leading_ones-2.type_inv small
    (c.leading_ones.ensures k small) (c.leading_ones-2.ensures k small) in
    rw (bit_of_byte-or, mask) (grind (arith, nat_tests, ap is_black_ink c.in-Black.is))

pub returns-in-White : goal.returns-in-White
returns-in-White c k small =
    let a = c.leading_ones.result in
    let b = c.leading_ones-2.result in
    let mask = mask_bit a b c.args.from c.args.end k c.leading_ones-2.type_inv small
    (c.leading_ones.ensures k small) (c.leading_ones-2.ensures k small) in
    rw (bit_of_byte-and, bit_of_byte-not {n = bit_and a (255 - b)} (omega (arith, and_le_l a (255 - b))) small, mask)
    (grind (arith, nat_tests, ap is_black_ink c.in-White.is))
