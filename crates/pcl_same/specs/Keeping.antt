-- A job that was performed once, and others compared with it.
use Rattle.std.specs.Prelude.{ℕ, List, Result, Ok, Err}
use Rattle.pcl_base.specs.declared.dpi.Dpi.{Dpi}
use Rattle.pcl_base.specs.declared.fault.JobFault.{JobFault}
use Rattle.pcl_base.specs.declared.fault.JobFault.TheVariants.{Refused, Memory}
use Rattle.pcl_base.specs.declared.profile.Profile.{Profile}
use Rattle.pcl_page.specs.Asks.{asks_of}
use Rattle.pcl_page.specs.Situation.{Sheet}
use Rattle.pcl_page.specs.Jobs.{HasPagesBy, HasAsksBy}
use Rattle.pcl_page.specs.Delivering.{IsRefusalBy}
use Rattle.pcl_same.specs.declared.asking.LastExit.{LastExit}
use Rattle.pcl_same.specs.declared.asking.LastExit.TheVariants.{Counts}
use Rattle.pcl_same.specs.declared.comparison.AskedComparison.{AskedComparison}
use Rattle.pcl_same.specs.declared.keeping.KeptJob.{KeptJob}
use Rattle.pcl_same.specs.Comparing.{IsComparisonCounting}
use Rattle.pcl_same.specs.Kept.{KeepAll}

-- a profile accepts the job, and its pages and what it asks of the printer are kept
pub record IsKept (profile : Profile) (dpi : Dpi) (job : List ℕ) (kept : KeptJob) : Type 0 where
  pub pages : List Sheet
  pub meaning : HasPagesBy profile dpi job pages
  pub keeps : KeepAll dpi pages kept.pages.items
  pub asked : HasAsksBy profile dpi job (asks_of kept.asks)

-- a job that is refused; no fault comes but this and out of memory
abbrev pub KeepsJob : Profile → Dpi → List ℕ → Result KeptJob JobFault → Type 0
KeepsJob profile dpi job (Ok kept) = IsKept profile dpi job kept
KeepsJob profile dpi job (Err (Refused refusal)) = IsRefusalBy profile dpi job refusal
KeepsJob profile dpi job (Err Memory) = Unit {0}

-- a second job beside the first, which is kept; a last exit without lines counts as any other, or is the end of the job
abbrev pub IsCountedBeside : LastExit → Profile → Dpi → List ℕ → List ℕ → Result AskedComparison JobFault → Type 0
IsCountedBeside last profile dpi first second (Ok comparison) = IsComparisonCounting last profile dpi first second comparison
IsCountedBeside last profile dpi first second (Err (Refused refusal)) = IsRefusalBy profile dpi second refusal
IsCountedBeside last profile dpi first second (Err Memory) = Unit {0}

abbrev pub IsComparedBeside : Profile → Dpi → List ℕ → List ℕ → Result AskedComparison JobFault → Type 0
IsComparedBeside profile dpi first second answer = IsCountedBeside Counts profile dpi first second answer
