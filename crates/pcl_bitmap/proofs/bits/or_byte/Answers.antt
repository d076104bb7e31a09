use Rattle.pcl_bitmap.proofs.Names.{bit_and, arith, run_dot}
use Rattle.pcl_bitmap.proofs.Runs.{added_bits, part_alone}
use Rattle.pcl_bitmap.proofs.bits.or_byte.Goals as goal

pub returns : goal.returns
returns c =
    part_alone c.args.target.now c.args.i (bit_and c.shifted_byte.result c.leading_ones.result)
    (run_dot c.args.from c.args.end c.args.source.now) (omega arith)
    (added_bits c.args.source.now c.args.from c.args.end c.args.i c.shifted_byte.result c.leading_ones.result (omega arith)
    c.shifted_byte.ensures c.leading_ones.ensures)
