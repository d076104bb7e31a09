use Rattle.pcl_check.proofs.Names.{refl, arith, slice_index}
use Rattle.pcl_check.proofs.Values.{put_none, put_more}
use Rattle.pcl_check.proofs.places.windows.put_sums.Goals as goal

pub loop-place-init : goal.loop-place-init
loop-place-init c = record { numbers = put_none (slice_index c.args.sums.now) c.args.window.now.numbers c.args.from; room = omega arith }

pub loop-place-preserved : goal.loop-place-preserved
loop-place-preserved c = record {
  numbers = put_more (slice_index c.args.sums.now) c.args.window.now.numbers (omega arith) c.loop-place.invariant.numbers
      c.put.ensures.numbers refl;
  room = omega (arith, c.put.ensures.room, c.loop-place.invariant.room);
}
