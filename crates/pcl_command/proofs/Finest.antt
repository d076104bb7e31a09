-- The resolution at which two jobs are compared that are accepted at 300 dots per inch, or at neither.
use Rattle.std.proofs.Common.{◌≢◌, ℕ, List, Bool, Result, Ok, Err, IfOk, inl, inr}
use Rattle.pcl_command.proofs.Names.{AskedComparison, AreComparedAt, IsComparisonFor, IsFiner}
use Rattle.pcl_base.specs.declared.dpi.Dpi.{Dpi}
use Rattle.pcl_base.specs.declared.dpi.Dpi.TheVariants.{Dpi300, Dpi600}
use Rattle.pcl_base.specs.declared.profile.Profile.{Profile}
use Rattle.pcl_base.specs.declared.refusal.Refusal.{Refusal}
use Rattle.pcl_request.specs.Resolutions.{IsFirstCommon}
use Rattle.pcl_request.specs.declared.request.Resolution.TheVariants.{FirstAccepted}
use Rattle.pcl_same.specs.Comparing.{IsCompared}
use Rattle.pcl_same.specs.declared.comparison.AskedComparison.TheVariants as asked
use Rattle.pcl_same.specs.declared.fault.Which.{Which}
use Rattle.pcl_same.specs.declared.fault.Which.TheVariants.{First, Second}
use Rattle.pcl_same.specs.declared.fault.SameFault.TheVariants.{Refused}

-- they are the same at 300
pub finer_there : {E : Type 0} (asks : Bool) (widest : Profile) (first second : List ℕ) (result : Result Dpi E)
    → IsComparisonFor asks widest Dpi300 first second asked.Same → IfOk result (λ dpi. IsFiner widest first second dpi)
    → IfOk result (λ dpi. IsFirstCommon widest first second Dpi300 → AreComparedAt FirstAccepted asks widest first second dpi)
finer_there asks widest first second (Ok Dpi600) same finer = λ common. inr (common, same, finer)
finer_there asks widest first second (Ok Dpi300) same finer = λ common. (common, inr finer)
finer_there asks widest first second (Err fault) same finer = tt

-- they aren't
pub unlike_there : (asks : Bool) (widest : Profile) (first second : List ℕ) (comparison : AskedComparison) → comparison ≢ asked.Same
    → IsComparisonFor asks widest Dpi300 first second comparison → IsFirstCommon widest first second Dpi300
    → AreComparedAt FirstAccepted asks widest first second Dpi300
unlike_there asks widest first second comparison unlike is common = (common, inl (inl (comparison, unlike, is)))

-- one of them is refused there
pub refused_there : (asks : Bool) (widest : Profile) (first second : List ℕ) (which : Which) (refusal : Refusal)
    → IsCompared widest Dpi300 first second (Err (Refused which refusal)) → IsFirstCommon widest first second Dpi300
    → AreComparedAt FirstAccepted asks widest first second Dpi300
refused_there asks widest first second First refusal is common = (common, inl (inr (inl (refusal, is.1))))
refused_there asks widest first second Second refusal is common = (common, inl (inr (inr (refusal, is.1.2))))
