use Rattle.pcl_check.proofs.Names.{arith, rest, node_number}
use Rattle.pcl_check.proofs.Values.{put_none, put_more}
use Rattle.pcl_check.proofs.edges.skips.put_rests.Goals as goal

pub loop-row-init : goal.loop-row-init
loop-row-init c = record {
  numbers = put_none (λ y. rest (node_number c.args.table.now) y c.args.method) c.args.window.now.numbers c.args.from;
  room = omega arith;
}

pub loop-row-preserved : goal.loop-row-preserved
loop-row-preserved c = record {
  numbers = put_more (λ y. rest (node_number c.args.table.now) y c.args.method) c.args.window.now.numbers (omega arith)
      c.loop-row.invariant.numbers c.put.ensures.numbers c.rest.ensures;
  room = omega (arith, c.put.ensures.room, c.loop-row.invariant.room);
}
