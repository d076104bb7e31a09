-- What came of jobs, and whether one failed.
use Rattle.std.specs.Prelude.{◌≡◌, ◌≢◌, ◌↔◌, ℕ}
use Rattle.pcl_batch.specs.declared.report.ReportEntry.{ReportEntry}
use Rattle.pcl_batch.specs.declared.report.Outcome.TheVariants.{Failed}
use Rattle.pcl_batch.specs.declared.report.Totals.{Totals}

-- a job failed exactly where the status for it alone isn't 0
abbrev pub IsHonest : ReportEntry → Type 0
IsHonest entry = (entry.outcome ≡ Failed) ↔ (entry.status ≢ 0)

-- none of these jobs failed
abbrev pub HasNoFailure : Totals → Type 0
HasNoFailure totals = totals.failed ≡ 0

-- this many jobs were done, and none of them failed
abbrev pub AreAllDone : ℕ → Totals → Type 0
AreAllDone number totals = (totals.jobs ≡ number) × HasNoFailure totals
