use Rattle.std.proofs.Common.{◌≡◌, ◌+◌, ◌-◌, ◌≤◌, length}
use Rattle.pcl_escape.proofs.Names.{lines_at}
use Rattle.pcl_escape.proofs.exit.skip_lines.Given as goal

-- what is still to be skipped is what there was to be skipped
abbrev pub invariant-loop-line : goal.invariant-loop-line
invariant-loop-line l = record {
  within : length l.rest ≤ length l.bytes;
  same : lines_at (l.place + (length l.bytes - length l.rest)) l.rest ≡ lines_at l.place l.bytes;
}

abbrev pub decreases-loop-line : goal.decreases-loop-line
decreases-loop-line l = length l.rest
