use Rattle.std.proofs.Common.{◌≡◌, ◌+◌, ◌-◌, ◌++◌}
use Rattle.pcl_check.proofs.Names.{slice_index, values}
use Rattle.pcl_check.proofs.places.windows.put_sums.Given as goal

abbrev pub invariant-loop-place : goal.invariant-loop-place
invariant-loop-place l = record {
  numbers : l.window.numbers ≡ l.initial.window.numbers ++ values (slice_index l.sums) l.from (l.place - l.from);
  room : l.window.room + (l.place - l.from) ≡ l.initial.window.room;
}
