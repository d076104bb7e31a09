-- Arguments that come as numbers, and inputs that are too long.
use Rattle.std.specs.Prelude.{◌≡◌, ◌≢◌, ◌⊎◌, ◌↔◌, ℕ, ◌<◌, ◌≤◌, Bool, List, length, Option, Some, None, Result, Ok, Err}
use Rattle.pcl_command.specs.Comparisons.{AreComparedAt}
use Rattle.pcl_base.specs.Limits.{input_limit, page_limit}
use Rattle.pcl_base.specs.declared.dpi.Dpi.{Dpi}
use Rattle.pcl_base.specs.declared.dpi.Dpi.TheVariants.{Dpi300, Dpi600}
use Rattle.pcl_base.specs.declared.profile.Profile.{Profile}
use Rattle.pcl_base.specs.declared.profile.Profile.TheVariants.{Drivers}
use Rattle.pcl_cert.specs.declared.format.Format.{Format}
use Rattle.pcl_cert.specs.declared.format.Format.TheVariants.{One, Two}
use Rattle.pcl_streams.specs.declared.fault.Fault.TheVariants as run
use Rattle.pcl_preview.specs.declared.form.Scale.{Scale}
use Rattle.pcl_preview.specs.declared.page_images.PageChoice.{PageChoice}
use Rattle.pcl_preview.specs.declared.page_images.PageChoice.TheVariants.{All, Listed}
use Rattle.pcl_preview.specs.declared.page_images.PageSet.{PageSet}
use Rattle.pcl_preview.specs.PageImages.{is_between, is_listed}
use Rattle.pcl_request.specs.declared.request.Resolution.{Resolution}
use Rattle.pcl_request.specs.declared.request.Resolution.TheVariants.{Given, FirstAccepted}
use Rattle.pcl_request.specs.Resolutions.{IsSeenAt}
use Rattle.pcl_library.specs.Failures.{outcome_of}
use Rattle.pcl_library.specs.declared.failure.Argument.TheVariants as wrong
use Rattle.pcl_library.specs.declared.failure.CallFailure.{CallFailure}
use Rattle.pcl_library.specs.declared.failure.CallFailure.TheVariants.{Wrong, Run}

-- ---- numbers that a call takes

-- the number of a resolution
abbrev pub resolution_number : Resolution → ℕ
resolution_number (Given Dpi300) = 300
resolution_number (Given Dpi600) = 600
resolution_number FirstAccepted = 0

-- a job that is read by a profile is seen at this by the resolution of a number
abbrev pub IsSeen : Profile → ℕ → List ℕ → Dpi → Type 0
IsSeen profile number job dpi = (asked : Resolution) × (resolution_number asked ≡ number) × IsSeenAt asked profile job dpi

-- two jobs are seen at this by one where they are compared, with what they ask where that is wanted
abbrev pub AreSeen : (asks : Bool) → ℕ → (first second : List ℕ) → Dpi → Type 0
AreSeen asks number first second dpi =
    (asked : Resolution) × (resolution_number asked ≡ number) × AreComparedAt asked asks Drivers first second dpi

-- a set has the pages from one number to another, counted from 1, and no others
abbrev pub HasBetween : (first last : ℕ) → PageSet → Type 0
HasBetween first last pages =
    (before : ℕ) → before < page_limit → is_listed before pages ≡ is_between first last before

-- the pages from one number to another, counted from 1, or all of them by 0 and 0
abbrev pub IsChoiceFor : (first last : ℕ) → PageChoice → Type 0
IsChoiceFor first last All = (first ≡ 0) × (last ≡ 0)
IsChoiceFor first last (Listed pages) = (0 < first) × (first ≤ last) × (last ≤ page_limit) × HasBetween first last pages

-- the scale of a number
abbrev pub IsScaleFor : ℕ → Scale → Type 0
IsScaleFor number scale = scale.side ≡ number

-- the format of certificates of a number, or none by 0
abbrev pub IsFormatFor : ℕ → Option Format → Type 0
IsFormatFor number None = number ≡ 0
IsFormatFor number (Some One) = number ≡ 1
IsFormatFor number (Some Two) = number ≡ 2

-- ---- numbers that none takes

-- no resolution has the number
abbrev pub IsNoResolution : ℕ → Type 0
IsNoResolution number = (number ≢ 0) × (number ≢ 300) × (number ≢ 600)

-- no pages are from one number to another: the first alone is 0, they are in the wrong order, or a job has no page of the last
abbrev pub AreNoPages : (first last : ℕ) → Type 0
AreNoPages first last = ((first ≡ 0) × (0 < last)) ⊎ (last < first) ⊎ (page_limit < last)

-- no scale has the number
abbrev pub IsNoScale : ℕ → Type 0
IsNoScale number = (number ≡ 0) ⊎ (32 < number)

-- no format has the number
abbrev pub IsNoFormat : ℕ → Type 0
IsNoFormat number = 2 < number

-- ---- inputs

-- there are more bytes than the program reads as one input
abbrev pub IsTooLong : List ℕ → Type 0
IsTooLong bytes = input_limit < length bytes

-- ---- which arguments are right

-- an input isn't too long, or is reported to be
abbrev pub IsWithinLimit : List ℕ → Result (Unit {0}) CallFailure → Type 0
IsWithinLimit bytes (Ok unit) = length bytes ≤ input_limit
IsWithinLimit bytes (Err failure) = (failure ≡ Run run.TooLong) × IsTooLong bytes

-- what a number asks for, or that it is wrong
abbrev pub IsResolutionOf : ℕ → Result Resolution CallFailure → Type 0
IsResolutionOf number (Ok asked) = resolution_number asked ≡ number
IsResolutionOf number (Err failure) = (failure ≡ Wrong wrong.Resolution) × IsNoResolution number

abbrev pub IsChoiceOf : (first last : ℕ) → Result PageChoice CallFailure → Type 0
IsChoiceOf first last (Ok choice) = IsChoiceFor first last choice
IsChoiceOf first last (Err failure) = (failure ≡ Wrong wrong.Pages) × AreNoPages first last

abbrev pub IsScaleOf : ℕ → Result Scale CallFailure → Type 0
IsScaleOf number (Ok scale) = IsScaleFor number scale
IsScaleOf number (Err failure) = (failure ≡ Wrong wrong.Scale) × IsNoScale number

abbrev pub IsFormatOf : ℕ → Result (Option Format) CallFailure → Type 0
IsFormatOf number (Ok format) = IsFormatFor number format
IsFormatOf number (Err failure) = (failure ≡ Wrong wrong.Format) × IsNoFormat number

-- ---- which arguments fail a call

-- the number of how something ended
abbrev pub outcome_in : {A : Type 0} → Result A CallFailure → ℕ
outcome_in (Ok value) = 0
outcome_in (Err failure) = outcome_of failure

-- A call ends by a wrong number exactly where one is wrong, and by too long an input exactly where one is and no number is wrong.
pub record FailsBy (IsWrong TooLong : Type 0) (outcome : ℕ) : Type 0 where
  pub wrong : (outcome ≡ 3) ↔ IsWrong
  pub too_long : (outcome ≡ 4) ↔ ((IsWrong → ⊥) × TooLong)

-- a call doesn't end by its arguments
abbrev pub AreArgumentsTaken : ℕ → Type 0
AreArgumentsTaken outcome = (outcome ≢ 3) × (outcome ≢ 4)
