use Rattle.pcl_rows.proofs.Overlays.{put_more, copied_once}
use Rattle.pcl_rows.proofs.decoding.put.Goals as goal

pub loop-byte-preserved : goal.loop-byte-preserved
loop-byte-preserved c =
    let step = put_more c.args.row.now c.args.copies c.args.bytes.now c.requires c.loop-byte-test.true c.loop-byte.invariant.row
    c.loop-byte.invariant.place c.put_copies-place.ensures.row c.put_copies-place.ensures.end in
    record { row = step.0; place = step.1 }

pub returns-then-copies-eq1-clause-row : goal.returns-then-copies-eq1-clause-row
returns-then-copies-eq1-clause-row c = rw (copied_once c.args.bytes.now c.if-copies-eq1.true) c.put_bytes.ensures.row

pub returns-then-copies-eq1-clause-end : goal.returns-then-copies-eq1-clause-end
returns-then-copies-eq1-clause-end c = rw (copied_once c.args.bytes.now c.if-copies-eq1.true) c.put_bytes.ensures.end
