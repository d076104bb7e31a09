use Rattle.std.proofs.Common.{◌/◌, arith}
use Rattle.pcl_bitmap.proofs.Names.{dot_of_row}
use Rattle.pcl_bitmap.proofs.Runs.{one_joined, two_joined}
use Rattle.pcl_bitmap.proofs.bits.or_short.Goals as goal

pub returns-then-div_ceil-first-clause-bits : goal.returns-then-div_ceil-first-clause-bits
returns-then-div_ceil-first-clause-bits c k =
    two_joined c.args.from c.args.end (c.args.from / 8) c.args.source.now k (dot_of_row c.args.target.now k)
    (dot_of_row c.or_byte.new.target k) (dot_of_row c.or_byte-then-div_ceil-first.new.target k)
    (omega arith) (omega arith) (c.or_byte.ensures k) (c.or_byte-then-div_ceil-first.ensures k)

pub returns-else-div_ceil-first-clause-bits : goal.returns-else-div_ceil-first-clause-bits
returns-else-div_ceil-first-clause-bits c k =
    one_joined c.args.from c.args.end (c.args.from / 8) c.args.source.now k (dot_of_row c.args.target.now k)
    (dot_of_row c.or_byte.new.target k) (omega arith) (omega arith) (c.or_byte.ensures k)
