use Rattle.std.proofs.Common.{◌+◌, ◌-◌, ◌%◌, ◌≤◌, refl, arith}
use Rattle.pcl_preview.proofs.Counts.{byte_more, none_yet}
use Rattle.pcl_preview.proofs.greymap.black_dots.Goals as goal

pub loop-from-init : goal.loop-from-init
loop-from-init c = record {
  ended = refl;
  begun = omega arith;
  within = omega arith;
  counted = none_yet c.args.row.now c.args.x;
  few = omega arith;
}

pub loop-from-preserved : goal.loop-from-preserved
loop-from-preserved c =
    let i = c.loop-from.invariant in
    let from = c.loop-from.from in
    let to = c.min-to.result in
    let on : from ≤ to = omega (arith, c.min-to.ensures, c.loop-from-test.true) in
    let inside : from % 8 + (to - from) ≤ 8 = omega (arith, c.min-to.ensures, on) in
    record {
      ended = refl;
      begun = omega (arith, i.begun, on);
      within = omega (arith, c.min-to.ensures);
      counted = byte_more c.args.row.now c.args.x from to c.loop-from.black c.black_bits-black.result c.byte_at.result i.begun on inside
          i.counted c.byte_at.ensures c.black_bits-black.ensures.count;
      few = omega (arith, i.begun, on, i.few, c.black_bits-black.ensures.bound);
    }
