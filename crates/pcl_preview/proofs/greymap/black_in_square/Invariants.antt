use Rattle.std.proofs.Common.{◌≡◌, ◌*◌, ◌≤◌}
use Rattle.pcl_preview.specs.Greymap.{black_in}
use Rattle.pcl_preview.proofs.greymap.black_in_square.Given as goal

-- the rows above are counted
abbrev pub invariant-loop-row : goal.invariant-loop-row
invariant-loop-row l = record {
  counted : l.black ≡ black_in l.bitmap l.x l.y l.side l.row;
  few : l.black ≤ 32 * l.row;
}
