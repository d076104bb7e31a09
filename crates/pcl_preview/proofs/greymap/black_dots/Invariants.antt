use Rattle.std.proofs.Common.{◌≡◌, ◌+◌, ◌-◌, ◌≤◌}
use Rattle.pcl_preview.specs.Greymap.{black_in_row}
use Rattle.pcl_preview.proofs.greymap.black_dots.Given as goal

-- the dots before this one are counted
abbrev pub invariant-loop-from : goal.invariant-loop-from
invariant-loop-from l = record {
  ended : l.end ≡ l.x + l.width;
  begun : l.x ≤ l.from;
  within : l.from ≤ l.end;
  counted : l.black ≡ black_in_row l.row l.x (l.from - l.x);
  few : l.black ≤ l.from - l.x;
}

abbrev pub decreases-loop-from : goal.decreases-loop-from
decreases-loop-from l = l.end - l.from
