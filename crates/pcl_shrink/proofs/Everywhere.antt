-- A job that counts at two resolutions.
use Rattle.std.proofs.Common.{◌≡◌, ℕ, List, Bool, true, Option, Some, None, Result, Ok, Err, IfOk}
use Rattle.pcl_shrink.proofs.Names.{Profile, Dpi, JobFault, Refused, Memory, Refusal, Sheet, HasPagesBy, IsAccepted, IsRefusalBy, IsKept, KeptJob, IsSameAlso, SaysIfSame, SaysIfSameAt, IsAcceptedAlso, IsKeptAlso, KeepsJobs, Readers, Shrunk, IsShrunkAt, IsShrunkEverywhereBy}
use Rattle.pcl_base.specs.declared.dpi.Dpi.TheVariants.{Dpi300, Dpi600}
use Rattle.pcl_same.specs.Keeping.{KeepsJob}
use Rattle.pcl_shrink.proofs.Looked.{answered_also}
use Rattle.pcl_shrink.proofs.Written.{accepted_for}

-- a job that is accepted isn't refused
abbrev pub Apart : Profile → Type 0
Apart profile =
    (dpi : Dpi) (job : List ℕ) (pages : List Sheet) (refusal : Refusal) → HasPagesBy profile dpi job pages
    → IsRefusalBy profile dpi job refusal → ⊥

-- ---- keeping

pub refused_also : {profile : Profile} → Apart profile → (dpi : Dpi) {other : Dpi} (also : Option Dpi) (job : List ℕ) (fault : JobFault)
    → also ≡ Some other
    → IsAcceptedAlso profile also job → KeepsJob profile other job (Err fault) → KeepsJobs profile dpi also job (Err fault)
refused_also {profile} apart dpi {other} also job (Refused refusal) is accepted k =
    let there : IsAccepted profile other job = rw is at accepted in absurd (apart other job there.0 refusal there.1 k)
refused_also apart dpi also job Memory is accepted k = tt

-- ---- comparing

pub kept_there : {profile : Profile} {other : Dpi} {k : KeptJob} (also : Option Dpi) (job : List ℕ) (kept : Option KeptJob)
    → also ≡ Some other → kept ≡ Some k
    → IsKeptAlso profile also job kept → IsKept profile other job k
kept_there also job kept counts is there = rw is at (rw counts at there)

pub kept_alone : (profile : Profile) (also : Option Dpi) (job candidate : List ℕ) (kept : Option KeptJob) → kept ≡ None
    → IsKeptAlso profile also job kept
    → IsSameAlso profile also job candidate
kept_alone profile None job candidate kept none k = tt
kept_alone profile (Some dpi) job candidate kept none k = absurd (rw none at k)

pub found_also : (profile : Profile) {E : Type 0} (dpi : Dpi) {other : Dpi} (also : Option Dpi) (job candidate : List ℕ) (first : Bool)
    (result : Result Bool E)
    → first ≡ true → also ≡ Some other → SaysIfSame profile dpi job candidate first
    → IfOk result (λ same. SaysIfSame profile other job candidate same)
    → IfOk result (λ same. SaysIfSameAt profile dpi also job candidate same)
found_also profile dpi also job candidate first (Ok same) is counts look again =
    answered_also profile dpi also job candidate first same is counts look again
found_also profile dpi also job candidate first (Err fault) is counts look again = tt

-- ---- shrinking

pub fine_alone : {profile : Profile} → Apart profile → (readers : Readers) (job : List ℕ) {refusal : Refusal} (fault : JobFault)
    (result : Result Shrunk JobFault) → fault ≡ Refused refusal
    → IsShrunkAt readers profile Dpi300 (Some Dpi600) job (Err fault) → IsAccepted profile Dpi600 job
    → IsShrunkAt readers profile Dpi600 None job result → IsShrunkEverywhereBy readers profile job result
fine_alone apart readers job {refusal} fault (Ok shrunk) is refused accepted s = (Dpi600, None, ((refusal, rw is at refused), accepted), s)
fine_alone apart readers job fault (Err (Refused why)) is refused accepted s = absurd (apart Dpi600 job accepted.0 why accepted.1 s)
fine_alone apart readers job fault (Err Memory) is refused accepted s = tt

pub coarse_alone : (profile : Profile) (readers : Readers) (job : List ℕ) (refusal : Refusal) (result : Result Shrunk JobFault)
    → IsRefusalBy profile Dpi600 job refusal → IsShrunkAt readers profile Dpi300 None job result
    → IsShrunkEverywhereBy readers profile job result
coarse_alone profile readers job refusal (Ok shrunk) refused s =
    (Dpi300, None, (accepted_for profile Dpi300 None job shrunk readers shrunk.doubt s, (refusal, refused)), s)
coarse_alone profile readers job refusal (Err (Refused why)) refused s = (s, (refusal, refused))
coarse_alone profile readers job refusal (Err Memory) refused s = tt
