-- What is found of two jobs.
use Rattle.std.specs.Prelude.{◌≡◌, ◌≢◌, ◌⊎◌, ℕ, List, length, Result, Ok, Err}
use Rattle.pcl_base.specs.declared.dpi.Dpi.{Dpi}
use Rattle.pcl_base.specs.declared.fault.JobFault.{JobFault}
use Rattle.pcl_base.specs.declared.fault.JobFault.TheVariants as job
use Rattle.pcl_base.specs.declared.profile.Profile.{Profile}
use Rattle.pcl_base.specs.declared.profile.Profile.TheVariants.{Stated, Drivers}
use Rattle.pcl_page.specs.Asks.{Asks}
use Rattle.pcl_page.specs.Situation.{Sheet}
use Rattle.pcl_page.specs.Jobs.{HasPagesBy, HasAsksBy}
use Rattle.pcl_page.specs.Delivering.{IsRefusalBy}
use Rattle.pcl_page.specs.Accepting.{IsAccepted, IsRefused}
use Rattle.pcl_page.specs.Alike.{AllAlike}
use Rattle.pcl_same.specs.declared.asking.LastExit.{LastExit}
use Rattle.pcl_same.specs.declared.asking.LastExit.TheVariants.{Counts, Ends}
use Rattle.pcl_same.specs.declared.comparison.AskedComparison.{AskedComparison}
use Rattle.pcl_same.specs.declared.comparison.AskedComparison.TheVariants as asked
use Rattle.pcl_same.specs.declared.comparison.PageComparison.{PageComparison}
use Rattle.pcl_same.specs.declared.comparison.PageComparison.TheVariants.{Same, PageCount, Page}
use Rattle.pcl_same.specs.declared.comparison.PagesDifference.TheVariants as pages
use Rattle.pcl_same.specs.declared.fault.Which.{Which}
use Rattle.pcl_same.specs.declared.fault.Which.TheVariants.{First, Second}
use Rattle.pcl_same.specs.declared.fault.SameFault.{SameFault}
use Rattle.pcl_same.specs.declared.fault.SameFault.TheVariants.{Refused, Memory}
use Rattle.pcl_same.specs.Differing.{DifferFirst}
use Rattle.pcl_same.specs.DifferingAsks.{AsksDifferBy, as_counted}

-- two lists of pages are the same, one by one; or not as many; or as many, of which one pair is the first that differs
abbrev pub Compare : Dpi → List Sheet → List Sheet → PageComparison → Type 0
Compare dpi pages others Same = AllAlike dpi pages others
Compare dpi pages others (PageCount count other_count) =
    (length pages ≡ count) × (length others ≡ other_count) × (count ≢ other_count)
Compare dpi pages others (Page number difference) =
    (length pages ≡ length others) × DifferFirst dpi pages others number difference

-- ---- by which profile

-- two jobs are read by the widest profile, but by the stated one where that accepts both
abbrev pub AreReadBy : (widest profile : Profile) → Dpi → (first second : List ℕ) → Type 0
AreReadBy Stated Stated dpi first second = Unit {0}
AreReadBy Stated Drivers dpi first second = ⊥
AreReadBy Drivers Stated dpi first second = IsAccepted Stated dpi first × IsAccepted Stated dpi second
AreReadBy Drivers Drivers dpi first second = IsRefused Stated dpi first ⊎ IsRefused Stated dpi second

-- what a profile answers, of the one by which two jobs are read
abbrev pub IsAnsweredByOne : {C : Type 0} → (Profile → Result C SameFault → Type 0) → (widest : Profile) → Dpi → (first second : List ℕ)
    → Result C SameFault → Type 0
IsAnsweredByOne IsBy widest dpi first second (Ok comparison) =
    (profile : Profile) × AreReadBy widest profile dpi first second × IsBy profile (Ok comparison)
IsAnsweredByOne IsBy widest dpi first second (Err (Refused which refusal)) =
    AreReadBy widest widest dpi first second × IsBy widest (Err (Refused which refusal))
IsAnsweredByOne IsBy widest dpi first second (Err Memory) = Unit {0}

-- ---- pages

-- a profile accepts both jobs, and their pages compare so
pub record IsComparisonBy (profile : Profile) (dpi : Dpi) (first second : List ℕ) (comparison : PageComparison) : Type 0 where
  pub pages : List Sheet
  pub meaning : HasPagesBy profile dpi first pages
  pub others : List Sheet
  pub other_meaning : HasPagesBy profile dpi second others
  pub compare : Compare dpi pages others comparison

-- a job that is refused, the first before the second; no fault comes but this and out of memory
abbrev pub IsComparedBy : Profile → Dpi → List ℕ → List ℕ → Result PageComparison SameFault → Type 0
IsComparedBy profile dpi first second (Ok comparison) = IsComparisonBy profile dpi first second comparison
IsComparedBy profile dpi first second (Err (Refused First refusal)) = IsRefusalBy profile dpi first refusal
IsComparedBy profile dpi first second (Err (Refused Second refusal)) =
    (pages : List Sheet) × HasPagesBy profile dpi first pages × IsRefusalBy profile dpi second refusal
IsComparedBy profile dpi first second (Err Memory) = Unit {0}

abbrev pub IsCompared : (widest : Profile) → Dpi → List ℕ → List ℕ → Result PageComparison SameFault → Type 0
IsCompared widest dpi first second answer =
    IsAnsweredByOne (λ profile it. IsComparedBy profile dpi first second it) widest dpi first second answer

abbrev pub IsComparison : (widest : Profile) → Dpi → List ℕ → List ℕ → PageComparison → Type 0
IsComparison widest dpi first second comparison = IsCompared widest dpi first second (Ok comparison)

-- ---- with what is asked

-- what is found of the pages alone
abbrev pub of_pages : AskedComparison → PageComparison
of_pages asked.Same = Same
of_pages (asked.Pages (pages.Count first second)) = PageCount first second
of_pages (asked.Pages (pages.Page number difference)) = Page number difference
of_pages (asked.Asks difference) = Same

-- what is asked is the same, or differs so; where pages differ nothing is said of it
abbrev pub CompareAsks : Asks → Asks → AskedComparison → Type 0
CompareAsks asks others asked.Same = asks ≡ others
CompareAsks asks others (asked.Pages difference) = Unit {0}
CompareAsks asks others (asked.Asks difference) = AsksDifferBy asks others difference

-- A profile accepts both jobs; their pages compare so, and where these are the same, so does what they ask of the printer. A last exit
-- without lines counts as any other, or is the end of the job.
pub record IsComparisonCounting (last : LastExit) (profile : Profile) (dpi : Dpi) (first second : List ℕ) (comparison : AskedComparison)
    : Type 0 where
  pub pages : List Sheet
  pub meaning : HasPagesBy profile dpi first pages
  pub asks : Asks
  pub asked : HasAsksBy profile dpi first asks
  pub others : List Sheet
  pub other_meaning : HasPagesBy profile dpi second others
  pub other_asks : Asks
  pub other_asked : HasAsksBy profile dpi second other_asks
  pub compare : Compare dpi pages others (of_pages comparison)
  pub compare_asks : CompareAsks (as_counted last asks) (as_counted last other_asks) comparison

abbrev pub IsAskedComparisonBy : Profile → Dpi → (first second : List ℕ) → AskedComparison → Type 0
IsAskedComparisonBy profile dpi first second comparison = IsComparisonCounting Counts profile dpi first second comparison

-- refusals as above
abbrev pub IsComparedAskedBy : LastExit → Profile → Dpi → List ℕ → List ℕ → Result AskedComparison SameFault → Type 0
IsComparedAskedBy last profile dpi first second (Ok comparison) = IsComparisonCounting last profile dpi first second comparison
IsComparedAskedBy last profile dpi first second (Err fault) = IsComparedBy profile dpi first second (Err fault)

-- a last exit without lines ends a job
abbrev pub IsComparedAsked : (widest : Profile) → Dpi → List ℕ → List ℕ → Result AskedComparison SameFault → Type 0
IsComparedAsked widest dpi first second answer =
    IsAnsweredByOne (λ profile it. IsComparedAskedBy Ends profile dpi first second it) widest dpi first second answer

abbrev pub IsAskedComparison : (widest : Profile) → Dpi → List ℕ → List ℕ → AskedComparison → Type 0
IsAskedComparison widest dpi first second comparison = IsComparedAsked widest dpi first second (Ok comparison)

-- ---- faults

-- the fault of one of the jobs
abbrev pub fault_of_one : Which → JobFault → SameFault
fault_of_one which (job.Refused refusal) = Refused which refusal
fault_of_one which job.Memory = Memory
