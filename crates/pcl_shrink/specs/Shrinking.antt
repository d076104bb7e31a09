-- The smallest job that is found with the pages of another.
use Rattle.std.specs.Prelude.{◌≡◌, ◌⊎◌, ℕ, ◌≤◌, List, length, Option, Some, None, Result, Ok, Err}
use Rattle.pcl_base.specs.declared.dpi.Dpi.{Dpi}
use Rattle.pcl_base.specs.declared.dpi.Dpi.TheVariants.{Dpi300, Dpi600}
use Rattle.pcl_base.specs.declared.fault.JobFault.{JobFault}
use Rattle.pcl_base.specs.declared.fault.JobFault.TheVariants.{Refused, Memory}
use Rattle.pcl_base.specs.declared.profile.Profile.{Profile}
use Rattle.pcl_base.specs.declared.profile.Profile.TheVariants.{Stated, Drivers}
use Rattle.pcl_base.specs.declared.refusal.Refusal.{Refusal}
use Rattle.pcl_page.specs.Accepting.{IsAccepted, IsRefused}
use Rattle.pcl_page.specs.Situation.{Sheet}
use Rattle.pcl_page.specs.Asks.{Asks}
use Rattle.pcl_page.specs.Jobs.{HasPagesBy, HasAsksBy}
use Rattle.pcl_page.specs.Delivering.{IsRefusalBy}
use Rattle.pcl_page.specs.Alike.{AllAlike}
use Rattle.pcl_meaning.specs.JobTexts.{said_for, IsJobOfBy}
use Rattle.pcl_shrink.specs.Asking.{asked_job}
use Rattle.pcl_shrink.specs.Looking.{IsSameAlso, IsSameAt}
use Rattle.pcl_shrink.specs.Texts.{AreLeastTexts}
use Rattle.pcl_printers.specs.declared.doubts.Doubt.{Doubt}
use Rattle.pcl_printers.specs.declared.doubts.Readers.{Readers}
use Rattle.pcl_printers.specs.declared.doubts.Readers.TheVariants as reader
use Rattle.pcl_shrink.specs.declared.candidate.Shrunk.{Shrunk}

-- a job that is accepted, with pages like these one by one: as many, of the same sizes, with as many copies, dot for dot
pub record PrintsAlike (profile : Profile) (dpi : Dpi) (pages : List Sheet) (job : List ℕ) : Type 0 where
  pub again : List Sheet
  pub accepted : HasPagesBy profile dpi job again
  pub alike : AllAlike dpi pages again

-- The input is accepted, and the output prints its pages and asks for what it asks for, at another resolution too where one counts. The
-- output is no longer than the input, nor than a least raster job of the input where it asks for no more than that says, nor than least
-- page texts with what it asks for around them, where these have the same pages and ask for the same; each of these two where it is the
-- same at the other resolution.
pub record IsSmallerJobAt (profile : Profile) (dpi : Dpi) (also : Option Dpi) (job output : List ℕ) : Type 0 where
  pub pages : List Sheet
  pub meaning : HasPagesBy profile dpi job pages
  pub prints : PrintsAlike profile dpi pages output
  pub asks : Asks
  pub asked : HasAsksBy profile dpi job asks
  pub asked_again : HasAsksBy profile dpi output asks
  pub same_also : IsSameAlso profile also job output
  pub within_input : length output ≤ length job
  pub raster : List ℕ
  pub raster_is : IsJobOfBy profile dpi job raster
  pub within_raster : asks ≡ said_for pages → IsSameAlso profile also job raster → length output ≤ length raster
  pub texts : List (List ℕ)
  pub least : AreLeastTexts dpi pages texts
  pub within_asked : IsSameAt profile dpi also job (asked_job asks texts) → length output ≤ length (asked_job asks texts)

abbrev pub IsSmallerJob : Profile → Dpi → List ℕ → List ℕ → Type 0
IsSmallerJob profile dpi job output = IsSmallerJobAt profile dpi None job output

-- such a job, and how many pages it has
pub record IsShrunkTo (profile : Profile) (dpi : Dpi) (also : Option Dpi) (job : List ℕ) (shrunk : Shrunk) : Type 0 where
  pub smaller : IsSmallerJobAt profile dpi also job shrunk.job.items
  pub counted : shrunk.pages ≡ length smaller.pages

-- a job as it came, and how many pages it has
pub record IsLeft (profile : Profile) (dpi : Dpi) (job : List ℕ) (shrunk : Shrunk) : Type 0 where
  pub pages : List Sheet
  pub meaning : HasPagesBy profile dpi job pages
  pub same : shrunk.job.items ≡ job
  pub counted : shrunk.pages ≡ length pages

-- for printers a job goes as it came where they may read it otherwise
abbrev pub IsShrunkFor : Readers → Option Doubt → Profile → Dpi → Option Dpi → List ℕ → Shrunk → Type 0
IsShrunkFor reader.Printers (Some doubt) profile dpi also job shrunk = IsLeft profile dpi job shrunk
IsShrunkFor reader.Printers None profile dpi also job shrunk = IsShrunkTo profile dpi also job shrunk
IsShrunkFor reader.Profile doubt profile dpi also job shrunk = IsShrunkTo profile dpi also job shrunk

abbrev pub IsShrunkAt : Readers → Profile → Dpi → Option Dpi → List ℕ → Result Shrunk JobFault → Type 0
IsShrunkAt readers profile dpi also job (Ok shrunk) = IsShrunkFor readers shrunk.doubt profile dpi also job shrunk
IsShrunkAt readers profile dpi also job (Err (Refused refusal)) = IsRefusalBy profile dpi job refusal
IsShrunkAt readers profile dpi also job (Err Memory) = Unit {0}

-- a job is read by the widest profile, but by the stated one where that accepts it
abbrev pub IsReadBy : (widest profile : Profile) → Dpi → List ℕ → Type 0
IsReadBy Stated Stated dpi job = Unit {0}
IsReadBy Stated Drivers dpi job = ⊥
IsReadBy Drivers Stated dpi job = IsAccepted Stated dpi job
IsReadBy Drivers Drivers dpi job = IsRefused Stated dpi job

abbrev pub IsShrunk : Readers → (widest : Profile) → Dpi → List ℕ → Result Shrunk JobFault → Type 0
IsShrunk readers widest dpi job (Ok shrunk) =
    (profile : Profile) × IsReadBy widest profile dpi job × IsShrunkFor readers shrunk.doubt profile dpi None job shrunk
IsShrunk readers widest dpi job (Err (Refused refusal)) = IsReadBy widest widest dpi job × IsRefusalBy widest dpi job refusal
IsShrunk readers widest dpi job (Err Memory) = Unit {0}

-- ---- what is written

-- the job itself, which is accepted
abbrev pub IsInput : Profile → Dpi → List ℕ → List ℕ → Type 0
IsInput profile dpi job output = IsAccepted profile dpi job × (output ≡ job)

abbrev pub IsWrittenBy : Readers → Profile → Dpi → List ℕ → List ℕ → Type 0
IsWrittenBy reader.Printers profile dpi job output = IsSmallerJob profile dpi job output ⊎ IsInput profile dpi job output
IsWrittenBy reader.Profile profile dpi job output = IsSmallerJob profile dpi job output

abbrev pub IsWrittenFor : Readers → (widest : Profile) → Dpi → List ℕ → List ℕ → Type 0
IsWrittenFor readers widest dpi job output =
    (profile : Profile) × IsReadBy widest profile dpi job × IsWrittenBy readers profile dpi job output

-- ---- at each resolution

-- where a job counts: at 300 dots per inch and at 600 too where it is accepted at both, else at the one at which it is
abbrev pub CountsAt : Profile → List ℕ → Dpi → Option Dpi → Type 0
CountsAt profile job Dpi300 (Some Dpi600) = IsAccepted profile Dpi300 job × IsAccepted profile Dpi600 job
CountsAt profile job Dpi300 None = IsAccepted profile Dpi300 job × IsRefused profile Dpi600 job
CountsAt profile job Dpi600 None = IsRefused profile Dpi300 job × IsAccepted profile Dpi600 job
CountsAt profile job dpi also = ⊥

abbrev pub IsSmallerEverywhere : Profile → List ℕ → List ℕ → Type 0
IsSmallerEverywhere profile job output =
    (dpi : Dpi) × (also : Option Dpi) × CountsAt profile job dpi also × IsSmallerJobAt profile dpi also job output

-- at each of them a job is read by the widest profile, but by the stated one where that accepts it at one
abbrev pub IsReadEverywhere : (widest profile : Profile) → List ℕ → Type 0
IsReadEverywhere Stated Stated job = Unit {0}
IsReadEverywhere Stated Drivers job = ⊥
IsReadEverywhere Drivers Stated job = IsAccepted Stated Dpi300 job ⊎ IsAccepted Stated Dpi600 job
IsReadEverywhere Drivers Drivers job = IsRefused Stated Dpi300 job × IsRefused Stated Dpi600 job

abbrev pub IsWrittenEverywhereBy : Readers → Profile → List ℕ → List ℕ → Type 0
IsWrittenEverywhereBy reader.Printers profile job output =
    IsSmallerEverywhere profile job output ⊎ ((dpi : Dpi) × IsInput profile dpi job output)
IsWrittenEverywhereBy reader.Profile profile job output = IsSmallerEverywhere profile job output

abbrev pub IsWrittenEverywhere : Readers → (widest : Profile) → List ℕ → List ℕ → Type 0
IsWrittenEverywhere readers widest job output =
    (profile : Profile) × IsReadEverywhere widest profile job × IsWrittenEverywhereBy readers profile job output

-- it is refused at both, at 300 dots per inch so
abbrev pub IsRefusedEverywhereBy : Profile → List ℕ → Refusal → Type 0
IsRefusedEverywhereBy profile job refusal = IsRefusalBy profile Dpi300 job refusal × IsRefused profile Dpi600 job

abbrev pub IsRefusedEverywhere : (widest : Profile) → List ℕ → Refusal → Type 0
IsRefusedEverywhere widest job refusal = IsReadEverywhere widest widest job × IsRefusedEverywhereBy widest job refusal

abbrev pub IsShrunkEverywhereBy : Readers → Profile → List ℕ → Result Shrunk JobFault → Type 0
IsShrunkEverywhereBy readers profile job (Ok shrunk) =
    (dpi : Dpi) × (also : Option Dpi) × CountsAt profile job dpi also × IsShrunkFor readers shrunk.doubt profile dpi also job shrunk
IsShrunkEverywhereBy readers profile job (Err (Refused refusal)) = IsRefusedEverywhereBy profile job refusal
IsShrunkEverywhereBy readers profile job (Err Memory) = Unit {0}

abbrev pub IsShrunkEverywhere : Readers → (widest : Profile) → List ℕ → Result Shrunk JobFault → Type 0
IsShrunkEverywhere readers widest job (Ok shrunk) =
    (profile : Profile) × IsReadEverywhere widest profile job × IsShrunkEverywhereBy readers profile job (Ok shrunk)
IsShrunkEverywhere readers widest job (Err (Refused refusal)) = IsRefusedEverywhere widest job refusal
IsShrunkEverywhere readers widest job (Err Memory) = Unit {0}
