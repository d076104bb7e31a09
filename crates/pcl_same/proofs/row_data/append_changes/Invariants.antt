use Rattle.std.proofs.Common.{length, ◌-◌, ◌≤◌}
use Rattle.pcl_same.specs.inner.Rows.{Appends}
use Rattle.pcl_same.proofs.row_data.append_changes.Given as goal

abbrev pub invariant-loop-place : goal.invariant-loop-place
invariant-loop-place l = record {
  within : l.place ≤ length l.row;
  appended : Appends l.initial.out.items l.out.items;
}

abbrev pub decreases-loop-place : goal.decreases-loop-place
decreases-loop-place l = length l.row - l.place
