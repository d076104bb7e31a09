use Rattle.std.proofs.Common.{◌≡◌, ◌+◌, ◌-◌, ◌*◌, ◌/◌, ◌^◌, bit_and, arith}
use Rattle.pcl_bitmap.proofs.Names.{nat_tests, bit_of_byte}
use Rattle.pcl_bitmap.proofs.Bytes.{dot_of_bits}
use Rattle.pcl_bitmap.proofs.Spread.{part_bits}
use Rattle.pcl_bitmap.proofs.squares.spread_byte.Goals as goal

pub loop-part-preserved : goal.loop-part-preserved
loop-part-preserved c k =
    let a = c.args in
    let part = c.loop-part.part in
    let after = dot_of_bits c.loop-part.target (a.at + part) (bit_and (c.spread_bits-wide.result / 2 ^ (8 * (a.scale - 1 - part))) 255) k
    (λ n. bit_of_byte a.byte ((n - 8 * a.at) / a.scale)) (omega arith) (λ m small.
    let place : 8 * (a.at + part) + m - 8 * a.at ≡ 8 * part + m = omega arith in
    rw place (part_bits c.spread_bits-wide.result a.byte a.scale part (omega arith) (omega arith) c.spread_bits-wide.ensures m small)) in
    grind (arith, nat_tests, after, c.loop-part.invariant k)
