-- A job that is kept at each resolution at which it counts.
use Rattle.std.specs.Prelude.{ℕ, List, Option, Some, None, Result, Ok, Err}
use Rattle.pcl_base.specs.declared.dpi.Dpi.{Dpi}
use Rattle.pcl_base.specs.declared.dpi.Dpi.TheVariants.{Dpi600}
use Rattle.pcl_base.specs.declared.fault.JobFault.{JobFault}
use Rattle.pcl_base.specs.declared.fault.JobFault.TheVariants.{Refused, Memory}
use Rattle.pcl_base.specs.declared.profile.Profile.{Profile}
use Rattle.pcl_page.specs.Accepting.{IsAccepted}
use Rattle.pcl_page.specs.Delivering.{IsRefusalBy}
use Rattle.pcl_same.specs.declared.keeping.KeptJob.{KeptJob}
use Rattle.pcl_same.specs.Keeping.{IsKept}
use Rattle.pcl_shrink.specs.declared.keeping.KeptJobs.{KeptJobs}
use Rattle.pcl_shrink.specs.declared.keeping.KeptSoFar.{KeptSoFar}
use Rattle.pcl_shrink.specs.declared.shifts.Fine.{Fine}

-- the job is accepted at another resolution too, where one counts
abbrev pub IsAcceptedAlso : Profile → Option Dpi → List ℕ → Type 0
IsAcceptedAlso profile None job = Unit {0}
IsAcceptedAlso profile (Some dpi) job = IsAccepted profile dpi job

-- the job, where it is kept
abbrev pub IsKeptIfAny : Profile → Dpi → List ℕ → Option KeptJob → Type 0
IsKeptIfAny profile dpi job None = Unit {0}
IsKeptIfAny profile dpi job (Some kept) = IsKept profile dpi job kept

abbrev pub IsKeptAlsoIfAny : Profile → Option Dpi → List ℕ → Option KeptJob → Type 0
IsKeptAlsoIfAny profile None job kept = Unit {0}
IsKeptAlsoIfAny profile (Some dpi) job kept = IsKeptIfAny profile dpi job kept

abbrev pub AreKeptSoFar : Profile → Dpi → Option Dpi → List ℕ → KeptSoFar → Type 0
AreKeptSoFar profile dpi also job kept = IsKeptIfAny profile dpi job kept.first × IsKeptAlsoIfAny profile also job kept.also

-- the job is accepted at 600 dots per inch, and kept or not; or it is refused there so
abbrev pub IsReadFinely : Profile → List ℕ → Result Fine JobFault → Type 0
IsReadFinely profile job (Ok fine) = IsAccepted profile Dpi600 job × IsKeptIfAny profile Dpi600 job fine.kept
IsReadFinely profile job (Err (Refused refusal)) = IsRefusalBy profile Dpi600 job refusal
IsReadFinely profile job (Err Memory) = Unit {0}

abbrev pub IsKeptAlso : Profile → Option Dpi → List ℕ → Option KeptJob → Type 0
IsKeptAlso profile None job None = Unit {0}
IsKeptAlso profile (Some dpi) job (Some kept) = IsKept profile dpi job kept
IsKeptAlso profile also job kept = ⊥

abbrev pub AreKept : Profile → Dpi → Option Dpi → List ℕ → KeptJobs → Type 0
AreKept profile dpi also job kept = IsKept profile dpi job kept.first × IsKeptAlso profile also job kept.also

-- a refusal is the one at the first resolution
abbrev pub KeepsJobs : Profile → Dpi → Option Dpi → List ℕ → Result KeptJobs JobFault → Type 0
KeepsJobs profile dpi also job (Ok kept) = AreKept profile dpi also job kept
KeepsJobs profile dpi also job (Err (Refused refusal)) = IsRefusalBy profile dpi job refusal
KeepsJobs profile dpi also job (Err Memory) = Unit {0}
