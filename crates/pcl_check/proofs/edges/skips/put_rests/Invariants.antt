use Rattle.std.proofs.Common.{◌≡◌, ◌+◌, ◌-◌, ◌++◌}
use Rattle.pcl_check.proofs.Names.{node_number, rests}
use Rattle.pcl_check.proofs.edges.skips.put_rests.Given as goal

abbrev pub invariant-loop-row : goal.invariant-loop-row
invariant-loop-row l = record {
  numbers : l.window.numbers ≡ l.initial.window.numbers ++ rests (node_number l.table) l.method l.from (l.row - l.from);
  room : l.window.room + (l.row - l.from) ≡ l.initial.window.room;
}
