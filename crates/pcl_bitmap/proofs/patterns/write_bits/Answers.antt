use Rattle.std.proofs.Common.{◌≡◌, ◌+◌, ◌*◌, arith}
use Rattle.pcl_bitmap.proofs.Names.{nat_tests, dot_of_row}
use Rattle.pcl_bitmap.proofs.Bytes.{dot_of_bits}
use Rattle.pcl_bitmap.proofs.patterns.write_bits.Goals as goal

pub loop-i-preserved : goal.loop-i-preserved
loop-i-preserved c k =
    let a = c.args in
    let i = c.loop-i.i in
    let after = dot_of_bits c.loop-i.target i c.eight_bits_from.result k (λ n. dot_of_row a.row.now (a.start + n)) (omega arith) (λ m small.
    let place : a.start + (8 * i + m) ≡ a.start + 8 * i + m = omega arith in
    rw place (c.eight_bits_from.ensures m small)) in
    grind (arith, nat_tests, after, c.loop-i.invariant k)
