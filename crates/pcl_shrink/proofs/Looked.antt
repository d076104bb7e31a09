-- What is found of a candidate beside a job.
use Rattle.std.proofs.Common.{◌≡◌, ◌≢◌, ℕ, List, Bool, true, false, Decides, Option, Some, Result, Ok, Err, refl, subst}
use Rattle.pcl_shrink.proofs.Names.{Profile, false≢true, Dpi, JobFault, Refusal, IsRefusalBy, AskedComparison, Same, Second, SameFault, IsAskedComparisonBy, IsComparedAskedBy, IsComparedBeside, IsSameAt, SaysIfSame, SaysIfSameAt}
use Rattle.pcl_base.specs.declared.fault.JobFault.TheVariants as faults
use Rattle.pcl_same.specs.declared.asking.LastExit.TheVariants.{Counts}
use Rattle.pcl_same.specs.declared.fault.SameFault.TheVariants.{Refused, Memory}

-- by a profile two jobs have one answer
abbrev pub OneAnswer : Profile → Type 0
OneAnswer profile = (dpi : Dpi) (first second : List ℕ) (answer other : Result AskedComparison SameFault)
    → IsComparedAskedBy Counts profile dpi first second answer → IsComparedAskedBy Counts profile dpi first second other
    → answer ≢ Err Memory
    → other ≢ Err Memory → answer ≡ other

-- another answer was found
unlike : {profile : Profile} → OneAnswer profile → {dpi : Dpi} {job candidate : List ℕ} (found : AskedComparison) → found ≢ Same
    → IsAskedComparisonBy profile dpi job candidate found → IsAskedComparisonBy profile dpi job candidate Same → ⊥
unlike one {dpi} {job} {candidate} found other is same =
    let equal = one dpi job candidate (Ok found) (Ok Same) is same (λ e. cc) (λ e. cc) in other cc

-- an answer, by whether it is that they are the same
pub answered : {profile : Profile} → OneAnswer profile → {dpi : Dpi} {job candidate : List ℕ} (found : AskedComparison) (same : Bool)
    → Decides same (found ≡ Same)
    → IsAskedComparisonBy profile dpi job candidate found → SaysIfSame profile dpi job candidate same
answered {profile} one {dpi} {job} {candidate} found true decides is =
    subst (IsAskedComparisonBy profile dpi job candidate) (decides.0 refl) is
answered one found false decides is = unlike one found (λ e. false≢true (decides.1 e)) is

-- the candidate is refused
pub refused : {profile : Profile} → OneAnswer profile → (dpi : Dpi) (job candidate : List ℕ) {fault : JobFault} {refusal : Refusal}
    → fault ≡ faults.Refused refusal
    → IsComparedBeside profile dpi job candidate (Err fault) → IsAskedComparisonBy profile dpi job candidate Same → ⊥
refused {profile} one dpi job candidate {fault} {refusal} is beside same =
    let why : IsRefusalBy profile dpi candidate refusal = rw is at beside in
    let equal = one dpi job candidate (Err (Refused Second refusal)) (Ok Same) (_, same.meaning, why) same (λ e. cc) (λ e. cc) in cc

-- ---- at each resolution that counts

-- it isn't at the first
pub unlike_first : (profile : Profile) (dpi : Dpi) (also : Option Dpi) (job candidate : List ℕ) (same : Bool) → same ≡ false
    → SaysIfSame profile dpi job candidate same → SaysIfSameAt profile dpi also job candidate false
unlike_first profile dpi also job candidate same is look = λ both. (rw is at look) both.0

-- it is at the first, and the other has its answer
pub answered_also : (profile : Profile) (dpi : Dpi) {other : Dpi} (also : Option Dpi) (job candidate : List ℕ) (first same : Bool)
    → first ≡ true
    → also ≡ Some other → SaysIfSame profile dpi job candidate first → SaysIfSame profile other job candidate same
    → SaysIfSameAt profile dpi also job candidate same
answered_also profile dpi also job candidate first true is there look again = (rw is at look, rw there again)
answered_also profile dpi also job candidate first false is there look again = λ both. again (rw there at both.1)

-- ---- what follows of an answer, on bytes that were lent

pub says_same : (profile : Profile) (dpi : Dpi) (also : Option Dpi) (job : List ℕ) {lent bytes : List ℕ} (same : Bool) → same ≡ true
    → lent ≡ bytes
    → SaysIfSameAt profile dpi also job lent same → IsSameAt profile dpi also job bytes
says_same profile dpi also job same is there look = rw there at (rw is at look)

pub says_unlike : (profile : Profile) (dpi : Dpi) (also : Option Dpi) (job : List ℕ) {lent bytes : List ℕ} (same : Bool) → same ≡ false
    → lent ≡ bytes
    → SaysIfSameAt profile dpi also job lent same → IsSameAt profile dpi also job bytes → ⊥
says_unlike profile dpi also job same is there look = rw there at (rw is at look)
