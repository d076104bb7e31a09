use Rattle.std.proofs.Common.{◌≡◌, add-zero, arith}
use Rattle.pcl_bitmap.proofs.Names.{take_rest, dot_of_row}
use Rattle.pcl_bitmap.proofs.Runs.{run_dot-joined}
use Rattle.pcl_bitmap.proofs.bits.or_long.Goals as goal
use Rattle.pcl_bitmap.proofs.bits.or_long.Goals.{then-whole-gt0, else-whole-gt0}

pub returns-clause-bits : goal.returns-clause-bits
returns-clause-bits c k =
    let w = c.whole_bytes-whole.result in
    let promise = c.whole_bytes-whole.ensures in
    rw (c.or_shifted.ensures.bits k, take_rest c.args.source.now w) (elim c.if-whole-gt0.branch [
      | then-whole-gt0 b ↦
          run_dot-joined c.args.from c.args.end w c.args.source.now k (dot_of_row c.args.target.now k) (dot_of_row c.if-whole-gt0.target k)
          promise.within (promise.aligned b.if-whole-gt0.true) (promise.in_run b.if-whole-gt0.true) (rw b.target-is (b.or_bytes.ensures k))
      | else-whole-gt0 b ↦ let none : w ≡ 0 = omega arith in rw (b.target-is, none, add-zero c.args.from)
    ])
