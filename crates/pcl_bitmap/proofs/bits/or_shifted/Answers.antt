use Rattle.std.proofs.Common.{◌/◌, arith}
use Rattle.pcl_bitmap.proofs.Names.{dot_of_row}
use Rattle.pcl_bitmap.proofs.Runs.{parts_joined}
use Rattle.pcl_bitmap.proofs.bits.or_shifted.Goals as goal

pub returns-clause-bits : goal.returns-clause-bits
returns-clause-bits c k =
    let f = c.args.from / 8 in
    parts_joined c.args.from c.args.end f c.max-tail.result c.div_ceil.result c.args.source.now k (dot_of_row c.args.target.now k)
    (dot_of_row c.or_part.new.target k) (dot_of_row c.or_pairs.new.target k) (dot_of_row c.or_part-2.new.target k)
    (omega arith) (omega arith) (omega arith) (λ more. omega arith) (c.or_part.ensures k) (c.or_pairs.ensures k) (c.or_part-2.ensures k)
    (omega arith)
