-- The best job so far.
use Rattle.std.specs.Prelude.{ℕ, ◌≤◌, List, length, Option, Some, None}
use Rattle.pcl_base.specs.declared.dpi.Dpi.{Dpi}
use Rattle.pcl_base.specs.declared.profile.Profile.{Profile}
use Rattle.pcl_page.specs.Situation.{Sheet}
use Rattle.pcl_page.specs.Asks.{Asks}
use Rattle.pcl_page.specs.Jobs.{HasPagesBy, HasAsksBy}
use Rattle.pcl_shrink.specs.Looking.{IsSameAlso, IsSameAt}
use Rattle.pcl_shrink.specs.Shrinking.{PrintsAlike}
use Rattle.pcl_shrink.specs.declared.candidate.Proposal.{Proposal}

-- a job with the pages of another, which asks for the same, and is no longer
pub record IsBest (profile : Profile) (dpi : Dpi) (also : Option Dpi) (job best : List ℕ) : Type 0 where
  pub pages : List Sheet
  pub meaning : HasPagesBy profile dpi job pages
  pub prints : PrintsAlike profile dpi pages best
  pub asks : Asks
  pub asked : HasAsksBy profile dpi job asks
  pub asked_again : HasAsksBy profile dpi best asks
  pub same_also : IsSameAlso profile also job best
  pub within_input : length best ≤ length job

-- the bytes of the best job that was found, or else those of the job as it came
abbrev pub best_bytes : List ℕ → Option Proposal → List ℕ
best_bytes job None = job
best_bytes job (Some proposal) = proposal.job.items

-- the shorter of the best job so far and a proposal that has the same pages and asks for the same
pub record IsShorter (profile : Profile) (dpi : Dpi) (also : Option Dpi) (job best proposal shorter : List ℕ) : Type 0 where
  pub keeps : IsBest profile dpi also job best → IsBest profile dpi also job shorter
  pub no_longer : length shorter ≤ length best
  pub takes : IsSameAt profile dpi also job proposal → length shorter ≤ length proposal
