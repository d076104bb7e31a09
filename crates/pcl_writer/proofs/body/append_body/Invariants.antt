use Rattle.std.proofs.Common.{◌≡◌, length, take, drop}
use Rattle.pcl_writer.proofs.Bodies.{IsWrittenTo}
use Rattle.pcl_writer.proofs.body.append_body.Given as goal

-- the steps so far are written
abbrev pub invariant-loop-i : goal.invariant-loop-i
invariant-loop-i l = record {
  front : take (length l.fn.out.items) l.out.items ≡ l.fn.out.items;
  written : IsWrittenTo l.bitmap l.plan l.fn.out.items l.out.items (drop l.i l.steps) l.node;
}
