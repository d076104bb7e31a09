-- What is proposed for a job, and what it is measured by.
use Rattle.std.specs.Prelude.{◌≡◌, ℕ, ◌≤◌, List, length, Option, Result, Ok, Err}
use Rattle.pcl_base.specs.declared.dpi.Dpi.{Dpi}
use Rattle.pcl_base.specs.declared.fault.JobFault.{JobFault}
use Rattle.pcl_base.specs.declared.fault.JobFault.TheVariants.{Refused, Memory}
use Rattle.pcl_base.specs.declared.profile.Profile.{Profile}
use Rattle.pcl_page.specs.Situation.{Sheet}
use Rattle.pcl_page.specs.Asks.{Asks}
use Rattle.pcl_page.specs.Jobs.{HasPagesBy, HasAsksBy}
use Rattle.pcl_page.specs.Delivering.{IsRefusalBy}
use Rattle.pcl_shrink.specs.Asking.{asked_job}
use Rattle.pcl_shrink.specs.Texts.{AreLeastTexts}
use Rattle.pcl_shrink.specs.Shrinking.{IsSmallerJobAt}
use Rattle.pcl_shrink.specs.inner.Best.{IsBest, best_bytes}
use Rattle.pcl_shrink.specs.inner.Kept.{IsKeptIfAny}
use Rattle.pcl_shrink.specs.declared.candidate.Proposal.{Proposal}
use Rattle.pcl_shrink.specs.declared.proposals.Proposed.{Proposed}

-- least page texts take no fewer bytes, with what the job asks for around them
pub record IsLimit (profile : Profile) (dpi : Dpi) (job : List ℕ) (limit : ℕ) : Type 0 where
  pub pages : List Sheet
  pub meaning : HasPagesBy profile dpi job pages
  pub asks : Asks
  pub asked : HasAsksBy profile dpi job asks
  pub texts : List (List ℕ)
  pub least : AreLeastTexts dpi pages texts
  pub within : limit ≤ length (asked_job asks texts)

pub record IsMeasured (profile : Profile) (dpi : Dpi) (job : List ℕ) (limit count : ℕ) : Type 0 where
  pub limit_is : IsLimit profile dpi job limit
  pub counted : count ≡ length limit_is.pages

abbrev pub HasProposed : Profile → Dpi → List ℕ → Result Proposed JobFault → Type 0
HasProposed profile dpi job (Ok proposed) =
    IsMeasured profile dpi job proposed.limit proposed.pages × IsKeptIfAny profile dpi job proposed.kept
HasProposed profile dpi job (Err (Refused refusal)) = IsRefusalBy profile dpi job refusal
HasProposed profile dpi job (Err Memory) = Unit {0}

-- the best job is no longer than the job, nor than least page texts with what is asked for around them
abbrev pub IsBestWithin : Profile → Dpi → Option Dpi → List ℕ → Result (Option Proposal) JobFault → Type 0
IsBestWithin profile dpi also job (Ok best) = IsSmallerJobAt profile dpi also job (best_bytes job best)
IsBestWithin profile dpi also job (Err (Refused refusal)) = IsRefusalBy profile dpi job refusal
IsBestWithin profile dpi also job (Err Memory) = Unit {0}

-- a job that was the best so far becomes one that is no longer than least page texts with what is asked for around them
abbrev pub IsWithin : Profile → Dpi → Option Dpi → List ℕ → Option Proposal → Result (Option Proposal) JobFault → Type 0
IsWithin profile dpi also job best (Ok last) =
    IsBest profile dpi also job (best_bytes job best) → IsSmallerJobAt profile dpi also job (best_bytes job last)
IsWithin profile dpi also job best (Err (Refused refusal)) = IsRefusalBy profile dpi job refusal
IsWithin profile dpi also job best (Err Memory) = Unit {0}
