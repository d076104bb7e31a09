-- What came of jobs, and the worst of their statuses.
use Rattle.std.specs.Prelude.{◌≡◌, ◌≢◌, ◌↔◌, ℕ, Result, Ok, Err}
use Rattle.pcl_base.specs.declared.fault.JobFault.{JobFault}
use Rattle.pcl_base.specs.declared.fault.JobFault.TheVariants.{Refused, Memory}
use Rattle.pcl_streams.specs.declared.fault.Fault.TheVariants as run
use Rattle.pcl_messages.specs.Faults.{status_for}
use Rattle.pcl_batch.specs.inner.Reports.{HasNoFailure}
use Rattle.pcl_batch.specs.declared.report.Outcome.TheVariants as report
use Rattle.pcl_batch.specs.declared.report.ReportEntry.{ReportEntry}
use Rattle.pcl_batch.specs.declared.batch.Tally.{Tally}
use Rattle.pcl_batch.specs.declared.job.Came.{Came}
use Rattle.pcl_batch.specs.declared.job.Came.TheVariants.{Done, Failed}
use Rattle.pcl_batch.specs.declared.reasons.Reason.{Reason}

-- no job is called right for this reason
abbrev pub IsFailing : Reason → Type 0
IsFailing reason = reason.status ≢ 0

-- a job that failed has a reason
abbrev pub FailsByReason : Came → Type 0
FailsByReason (Failed reason) = IsFailing reason
FailsByReason (Done outcome output) = outcome ≢ report.Failed

-- what is reported of a job is what came of it: a job that failed has the status of its reason, any other 0
abbrev pub ReportsOutcome : Came → ReportEntry → Type 0
ReportsOutcome (Failed reason) entry = (entry.outcome ≡ report.Failed) × (entry.status ≡ reason.status)
ReportsOutcome (Done outcome output) entry = (entry.outcome ≡ outcome) × (entry.status ≡ 0)

-- a job failed, with this status
abbrev pub HasFailedBy : ℕ → Came → Type 0
HasFailedBy status (Failed reason) = reason.status ≡ status
HasFailedBy status (Done outcome output) = ⊥

-- By what counting a job's pages gave: where memory ran out the job fails for that. A job that is counted or refused can come to anything.
abbrev pub FollowsCount : Result ℕ JobFault → Came → Type 0
FollowsCount (Err Memory) came = HasFailedBy (status_for run.Memory) came
FollowsCount (Err (Refused refusal)) came = Unit {0}
FollowsCount (Ok pages) came = Unit {0}

-- the status of jobs is 0 exactly where none of them failed
abbrev pub IsHonestTally : Tally → Type 0
IsHonestTally tally = (tally.status ≡ 0) ↔ HasNoFailure tally.totals
