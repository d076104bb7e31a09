use Rattle.std.specs.Prelude.{◌≡◌}
use Rattle.pcl_batch.specs.inner.Jobs.{IsHonestTally}
use Rattle.pcl_batch.proofs.batch.RunningBatch.write_jobs.Given as goal

abbrev pub invariant-loop-job : goal.invariant-loop-job
invariant-loop-job g l = IsHonestTally l.tally × (l.tally.totals.jobs ≡ l.job-index)
