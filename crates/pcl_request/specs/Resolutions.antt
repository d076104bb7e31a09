-- The resolution at which jobs are seen.
use Rattle.std.specs.Prelude.{◌≡◌, ◌⊎◌, ℕ, List, Bool, true, false}
use Rattle.pcl_base.specs.declared.dpi.Dpi.{Dpi}
use Rattle.pcl_base.specs.declared.dpi.Dpi.TheVariants.{Dpi300, Dpi600}
use Rattle.pcl_base.specs.declared.profile.Profile.{Profile}
use Rattle.pcl_page.specs.Accepting.{IsAccepted, IsRefused, IsFirstAccepted}
use Rattle.pcl_request.specs.declared.request.Resolution.{Resolution}
use Rattle.pcl_request.specs.declared.request.Resolution.TheVariants.{Given, FirstAccepted}

-- a job that is read by a profile is seen at this
abbrev pub IsSeenAt : Resolution → Profile → List ℕ → Dpi → Type 0
IsSeenAt (Given dpi) profile job at = at ≡ dpi
IsSeenAt FirstAccepted profile job at = IsFirstAccepted profile job at

-- a profile accepts both
abbrev pub AreBothAccepted : Profile → Dpi → (first second : List ℕ) → Type 0
AreBothAccepted profile dpi first second = IsAccepted profile dpi first × IsAccepted profile dpi second

abbrev pub IsOneRefused : Profile → Dpi → (first second : List ℕ) → Type 0
IsOneRefused profile dpi first second = IsRefused profile dpi first ⊎ IsRefused profile dpi second

abbrev pub SayIfAccepted : Profile → Dpi → (first second : List ℕ) → Bool → Type 0
SayIfAccepted profile dpi first second true = AreBothAccepted profile dpi first second
SayIfAccepted profile dpi first second false = IsOneRefused profile dpi first second

-- the first of 300 and 600 dots per inch at which two jobs are accepted, or 300 where there is none
abbrev pub IsFirstCommon : Profile → (first second : List ℕ) → Dpi → Type 0
IsFirstCommon profile first second Dpi300 =
    AreBothAccepted profile Dpi300 first second
    ⊎ (IsOneRefused profile Dpi300 first second × IsOneRefused profile Dpi600 first second)
IsFirstCommon profile first second Dpi600 =
    IsOneRefused profile Dpi300 first second × AreBothAccepted profile Dpi600 first second

-- two jobs that are read by a profile are seen at this
abbrev pub AreSeenAt : Resolution → Profile → (first second : List ℕ) → Dpi → Type 0
AreSeenAt (Given dpi) profile first second at = at ≡ dpi
AreSeenAt FirstAccepted profile first second at = IsFirstCommon profile first second at
