use Rattle.pcl_same.proofs.Names.{arith}
use Rattle.pcl_same.proofs.DifferingDots.{row_of_bits}
use Rattle.pcl_same.proofs.images.differing_bits.Goals as goal

pub returns-clause-bits : goal.returns-clause-bits
returns-clause-bits c =
    row_of_bits c.args.one.now c.args.other.now c.loop-place.bits c.requires.other c.loop-place.invariant.len
    (λ k lt. c.loop-place.invariant.done k (omega (arith, lt, c.loop-place-test.false, c.loop-place.auto.place-end, c.requires.bits)))
