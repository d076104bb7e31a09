use Rattle.std.proofs.Common.{◌≡◌, ◌≤◌, length}
use Rattle.pcl_escape.proofs.Names.{scan_outcome}
use Rattle.pcl_escape.proofs.Loop.{so_far}
use Rattle.pcl_escape.proofs.Places.{IsEndOf}
use Rattle.pcl_escape.proofs.job.scan.Given as goal

abbrev pub invariant-loop-inside : goal.invariant-loop-inside
invariant-loop-inside g l = record {
  within : length l.rest ≤ length l.job;
  same : so_far l.profile (g.S.CommandStore.kept l.job l.store) (length l.job) l.inside l.rest ≡ scan_outcome l.profile l.job;
  is_end : IsEndOf l.job l.rest;
}

abbrev pub decreases-loop-inside : goal.decreases-loop-inside
decreases-loop-inside g l = length l.rest
