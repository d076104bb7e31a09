use Rattle.pcl_streams.proofs.Names.{[], sym, append-nil, Appends-kept}
use Rattle.pcl_streams.proofs.writing.write_all.Goals as goal

pub returns-in-Ok : goal.returns-in-Ok
returns-in-Ok g c = Appends-kept _ _ _ c.args.bytes.now c.in_ok-write_bytes.ensures c.in-Ok.ensures.bytes

pub returns-in-Err : goal.returns-in-Err
returns-in-Err g c = (
  c.args.bytes.now,
  [],
  sym (append-nil c.args.bytes.now),
  Appends-kept _ _ _ c.args.bytes.now c.in_ok-write_bytes.ensures c.in-Err.ensures.bytes,
)
