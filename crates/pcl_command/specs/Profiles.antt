-- A job that is shrunk, by the profiles by which it is read.
use Rattle.std.specs.Prelude.{ℕ, List, None, Result}
use Rattle.pcl_base.specs.declared.dpi.Dpi.{Dpi}
use Rattle.pcl_base.specs.declared.fault.JobFault.{JobFault}
use Rattle.pcl_base.specs.declared.profile.Profile.TheVariants.{Stated, Drivers}
use Rattle.pcl_base.specs.declared.refusal.Refusal.{Refusal}
use Rattle.pcl_printers.specs.declared.doubts.Readers.{Readers}
use Rattle.pcl_shrink.specs.Shrinking.{IsShrunk, IsShrunkAt, IsShrunkEverywhere, IsShrunkEverywhereBy, IsWrittenFor, IsWrittenBy, IsWrittenEverywhere, IsWrittenEverywhereBy, IsRefusedEverywhere, IsRefusedEverywhereBy}
use Rattle.pcl_shrink.specs.declared.candidate.Shrunk.{Shrunk}
use Rattle.pcl_request.specs.declared.profiles.Profiles.{Profiles}
use Rattle.pcl_request.specs.declared.profiles.Profiles.TheVariants as read_by

-- what is written of a job: by the drivers' profile alone, whether the stated one accepts it or not
abbrev pub IsWrittenUnder : Readers → Profiles → Dpi → List ℕ → List ℕ → Type 0
IsWrittenUnder readers read_by.Stated dpi job output = IsWrittenFor readers Stated dpi job output
IsWrittenUnder readers read_by.Either dpi job output = IsWrittenFor readers Drivers dpi job output
IsWrittenUnder readers read_by.Drivers dpi job output = IsWrittenBy readers Drivers dpi job output

-- the same at each resolution at which it is accepted
abbrev pub IsWrittenEverywhereUnder : Readers → Profiles → List ℕ → List ℕ → Type 0
IsWrittenEverywhereUnder readers read_by.Stated job output = IsWrittenEverywhere readers Stated job output
IsWrittenEverywhereUnder readers read_by.Either job output = IsWrittenEverywhere readers Drivers job output
IsWrittenEverywhereUnder readers read_by.Drivers job output = IsWrittenEverywhereBy readers Drivers job output

-- it is refused at each
abbrev pub IsRefusedEverywhereUnder : Profiles → List ℕ → Refusal → Type 0
IsRefusedEverywhereUnder read_by.Stated job refusal = IsRefusedEverywhere Stated job refusal
IsRefusedEverywhereUnder read_by.Either job refusal = IsRefusedEverywhere Drivers job refusal
IsRefusedEverywhereUnder read_by.Drivers job refusal = IsRefusedEverywhereBy Drivers job refusal

-- ---- of the code

-- what comes of a job
abbrev pub IsShrunkUnder : Readers → Profiles → Dpi → List ℕ → Result Shrunk JobFault → Type 0
IsShrunkUnder readers read_by.Stated dpi job shrunk = IsShrunk readers Stated dpi job shrunk
IsShrunkUnder readers read_by.Either dpi job shrunk = IsShrunk readers Drivers dpi job shrunk
IsShrunkUnder readers read_by.Drivers dpi job shrunk = IsShrunkAt readers Drivers dpi None job shrunk

abbrev pub IsShrunkEverywhereUnder : Readers → Profiles → List ℕ → Result Shrunk JobFault → Type 0
IsShrunkEverywhereUnder readers read_by.Stated job shrunk = IsShrunkEverywhere readers Stated job shrunk
IsShrunkEverywhereUnder readers read_by.Either job shrunk = IsShrunkEverywhere readers Drivers job shrunk
IsShrunkEverywhereUnder readers read_by.Drivers job shrunk = IsShrunkEverywhereBy readers Drivers job shrunk
