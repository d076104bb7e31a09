use Rattle.std.proofs.Common.{◌≡◌, ◌+◌, ◌-◌, ◌*◌, ◌/◌, ◌%◌, arith}
use Rattle.pcl_bitmap.proofs.Names.{nat_tests}
use Rattle.pcl_bitmap.proofs.Bytes.{shifted_bits}
use Rattle.pcl_bitmap.proofs.patterns.eight_bits_from.Goals as goal

pub returns : goal.returns
returns c k small =
    let start = c.args.start in
    let before : start / 8 + 1 - 1 ≡ start / 8 = omega arith in
    let place : 8 * (start / 8 + 1) + k - (8 - start % 8) ≡ start + k = omega arith in
    let bits =
    shifted_bits c.args.row.now c.byte_at-first.result c.byte_at-second.result (start / 8 + 1) (8 - start % 8) k (omega arith) (omega arith)
    c.byte_at-second.ensures (λ _. rw before c.byte_at-first.ensures) (λ none. absurd (omega arith)) small in
    rw (c.bits_of_pair.ensures, ← place) (grind (arith, nat_tests, bits))
