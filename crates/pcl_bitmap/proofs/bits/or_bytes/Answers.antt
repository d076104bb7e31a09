use Rattle.std.proofs.Common.{◌≡◌, ◌+◌, ◌-◌, ◌*◌, get_or, refl, arith}
use Rattle.pcl_bitmap.proofs.Names.{nat_tests, dot_of_row}
use Rattle.pcl_bitmap.proofs.Bytes.{dot_at}
use Rattle.pcl_bitmap.proofs.Runs.{part_more}
use Rattle.pcl_bitmap.proofs.bits.or_bytes.Goals as goal

pub loop-i-init : goal.loop-i-init
loop-i-init c = record { within = omega arith; bits = λ k. grind (arith, nat_tests) }

pub loop-i-preserved : goal.loop-i-preserved
loop-i-preserved c =
    let source = c.args.source.now in
    let at = c.args.at in
    let i = c.loop-i.i in
    let next : at + i + 1 ≡ at + (i + 1) = omega arith in
    record {
      within = omega arith;
      bits =
          rw next at (part_more c.args.target.now c.loop-i.target at (at + i) (get_or source i 0) (λ k. dot_of_row source (k - 8 * at))
          (omega arith) (omega arith) (λ k small.
          let place : 8 * (at + i) + k - 8 * at ≡ 8 * i + k = omega arith in
          rw (place, dot_at source i small refl)) c.loop-i.invariant.bits);
    }
