use Rattle.std.proofs.Common.{◌≡◌, ℕ, ◌+◌, ◌-◌, ◌*◌, ◌/◌, ◌%◌, ◌<◌, get_or, refl, arith}
use Rattle.pcl_bitmap.proofs.Names.{nat_tests, dot_of_row}
use Rattle.pcl_bitmap.proofs.Bytes.{shifted_bits}
use Rattle.pcl_bitmap.proofs.Runs.{part_more}
use Rattle.pcl_bitmap.proofs.bits.or_pairs.Goals as goal

pub loop-i-preserved : goal.loop-i-preserved
loop-i-preserved c =
    let source = c.args.source.now in
    let from = c.args.from in
    let i = c.loop-i.i in
    let place : ℕ = i - from / 8 in
    let byte : get_or source place 0 < 256 = omega (arith, c.type_inv.source place) in
    part_more c.args.target.now c.loop-i.target c.args.first i c.bits_of_pair.result (λ k. dot_of_row source (k - from))
    (omega arith) (omega arith) (λ k small.
    let moved : 8 * (i - from / 8) + k - from % 8 ≡ 8 * i + k - from = omega arith in
    let bits =
    shifted_bits source (get_or source (place - 1) 0) (get_or source place 0) place (from % 8) k (omega arith) byte refl (λ _. refl)
    (λ none. absurd (omega arith)) small in
    rw (c.bits_of_pair.ensures, ← moved) (grind (arith, nat_tests, bits))) c.loop-i.invariant
