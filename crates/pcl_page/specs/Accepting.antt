-- Whether a job is accepted by a profile, at which resolution, and how many pages it has.
use Rattle.std.specs.Prelude.{◌≡◌, ℕ, List, length, ◌⊎◌, Bool, true, false, Result, Ok, Err}
use Rattle.pcl_base.specs.declared.dpi.Dpi.{Dpi}
use Rattle.pcl_base.specs.declared.dpi.Dpi.TheVariants.{Dpi300, Dpi600}
use Rattle.pcl_base.specs.declared.fault.JobFault.{JobFault}
use Rattle.pcl_base.specs.declared.fault.JobFault.TheVariants.{Refused, Memory}
use Rattle.pcl_base.specs.declared.profile.Profile.{Profile}
use Rattle.pcl_base.specs.declared.refusal.Refusal.{Refusal}
use Rattle.pcl_page.specs.Situation.{Sheet}
use Rattle.pcl_page.specs.Jobs.{HasPagesBy}
use Rattle.pcl_page.specs.Delivering.{IsRefusalBy}

-- the number of the pages of an accepted job
abbrev pub IsPageCount : Profile → Dpi → List ℕ → Result ℕ JobFault → Type 0
IsPageCount profile dpi job (Ok number) = (pages : List Sheet) × HasPagesBy profile dpi job pages × (length pages ≡ number)
IsPageCount profile dpi job (Err (Refused refusal)) = IsRefusalBy profile dpi job refusal
IsPageCount profile dpi job (Err Memory) = Unit {0}

abbrev pub IsAccepted : Profile → Dpi → List ℕ → Type 0
IsAccepted profile dpi job = (pages : List Sheet) × HasPagesBy profile dpi job pages

abbrev pub IsRefused : Profile → Dpi → List ℕ → Type 0
IsRefused profile dpi job = (refusal : Refusal) × IsRefusalBy profile dpi job refusal

abbrev pub SaysIfAccepted : Profile → Dpi → List ℕ → Bool → Type 0
SaysIfAccepted profile dpi job true = IsAccepted profile dpi job
SaysIfAccepted profile dpi job false = IsRefused profile dpi job

-- the first of 300 and 600 dots per inch at which a job is accepted, or 300 where it is refused at both
abbrev pub IsFirstAccepted : Profile → List ℕ → Dpi → Type 0
IsFirstAccepted profile job Dpi300 = IsAccepted profile Dpi300 job ⊎ (IsRefused profile Dpi300 job × IsRefused profile Dpi600 job)
IsFirstAccepted profile job Dpi600 = IsRefused profile Dpi300 job × IsAccepted profile Dpi600 job
