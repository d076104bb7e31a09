-- What is found of a candidate beside a job.
use Rattle.std.specs.Prelude.{ℕ, List, Bool, true, false, Option, Some, None}
use Rattle.pcl_base.specs.declared.dpi.Dpi.{Dpi}
use Rattle.pcl_base.specs.declared.profile.Profile.{Profile}
use Rattle.pcl_same.specs.declared.comparison.AskedComparison.TheVariants.{Same}
use Rattle.pcl_same.specs.Comparing.{IsAskedComparisonBy}

-- the candidate is the same at another resolution too, where one counts: both are accepted, have the same pages and ask for the same
abbrev pub IsSameAlso : Profile → Option Dpi → List ℕ → List ℕ → Type 0
IsSameAlso profile None job candidate = Unit {0}
IsSameAlso profile (Some dpi) job candidate = IsAskedComparisonBy profile dpi job candidate Same

abbrev pub IsSameAt : Profile → Dpi → Option Dpi → List ℕ → List ℕ → Type 0
IsSameAt profile dpi also job candidate = IsAskedComparisonBy profile dpi job candidate Same × IsSameAlso profile also job candidate

-- yes: both are accepted, have the same pages and ask for the same; no: they aren't, or they don't
abbrev pub SaysIfSame : Profile → Dpi → List ℕ → List ℕ → Bool → Type 0
SaysIfSame profile dpi job candidate true = IsAskedComparisonBy profile dpi job candidate Same
SaysIfSame profile dpi job candidate false = IsAskedComparisonBy profile dpi job candidate Same → ⊥

-- the same at each resolution that counts
abbrev pub SaysIfSameAt : Profile → Dpi → Option Dpi → List ℕ → List ℕ → Bool → Type 0
SaysIfSameAt profile dpi also job candidate true = IsSameAt profile dpi also job candidate
SaysIfSameAt profile dpi also job candidate false = IsSameAt profile dpi also job candidate → ⊥
