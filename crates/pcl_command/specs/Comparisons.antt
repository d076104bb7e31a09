-- What a comparison of two jobs writes, and how it ends.
use Rattle.std.specs.Prelude.{◌≡◌, ◌≢◌, ◌⊎◌, ℕ, Bool, true, false, List, Option, Result, Ok, Err}
use Rattle.std.specs.Global.{Vec}
use Rattle.std.specs.Io.KnownBytes.{Appends, Keeps}
use Rattle.pcl_base.specs.declared.dpi.Dpi.{Dpi}
use Rattle.pcl_base.specs.declared.profile.Profile.{Profile}
use Rattle.pcl_base.specs.declared.refusal.Refusal.{Refusal}
use Rattle.pcl_streams.specs.declared.fault.Fault.{Fault}
use Rattle.pcl_streams.specs.declared.fault.Fault.TheVariants as fault
use Rattle.pcl_streams.specs.Transfer.{AppendsFront}
use Rattle.pcl_same.specs.declared.fault.SameFault.{SameFault}
use Rattle.pcl_same.specs.declared.fault.SameFault.TheVariants as same
use Rattle.pcl_same.specs.declared.comparison.AskedComparison.{AskedComparison}
use Rattle.pcl_same.specs.declared.comparison.AskedComparison.TheVariants as asked
use Rattle.pcl_same.specs.declared.fault.Which.{Which}
use Rattle.pcl_same.specs.Comparing.{IsComparison, IsCompared, IsAskedComparison, of_pages}
use Rattle.pcl_files.specs.Files.{FileAct}
use Rattle.pcl_base.specs.declared.dpi.Dpi.TheVariants.{Dpi300, Dpi600}
use Rattle.pcl_request.specs.Resolutions.{AreBothAccepted, IsOneRefused, IsFirstCommon}
use Rattle.pcl_request.specs.declared.request.Resolution.{Resolution}
use Rattle.pcl_request.specs.declared.request.Resolution.TheVariants.{Given, FirstAccepted}
use Rattle.pcl_files.specs.WholeFiles.{IsFileRead}
use Rattle.pcl_request.specs.declared.request.ComparedFiles.{ComparedFiles}
use Rattle.pcl_messages.specs.declared.compare_fault.CompareFault.{CompareFault}
use Rattle.pcl_messages.specs.declared.compare_fault.CompareFault.TheVariants.{Refused, Failed}
use Rattle.pcl_messages.specs.ComparisonLines.{comparison_line_of}
use Rattle.pcl_command.specs.DifferenceImages.{IsImageDrawn}

-- how two jobs compare, with what they ask where that is wanted, and else by their pages alone
abbrev pub IsComparisonFor : (asks : Bool) → (widest : Profile) → Dpi → (first second : List ℕ) → AskedComparison → Type 0
IsComparisonFor true widest dpi first second comparison = IsAskedComparison widest dpi first second comparison
IsComparisonFor false widest dpi first second (asked.Asks difference) = ⊥
IsComparisonFor false widest dpi first second comparison = IsComparison widest dpi first second (of_pages comparison)

abbrev pub IsComparedFor : (asks : Bool) → (widest : Profile) → Dpi → (first second : List ℕ) → Result AskedComparison SameFault → Type 0
IsComparedFor asks widest dpi first second (Ok comparison) = IsComparisonFor asks widest dpi first second comparison
IsComparedFor asks widest dpi first second (Err fault) = IsCompared widest dpi first second (Err fault)

-- two jobs aren't the same at a resolution, or one is refused there
abbrev pub AreUnlike : (asks : Bool) → (widest : Profile) → Dpi → (first second : List ℕ) → Type 0
AreUnlike asks widest dpi first second =
    ((comparison : AskedComparison) × (comparison ≢ asked.Same) × IsComparisonFor asks widest dpi first second comparison)
    ⊎ IsOneRefused widest dpi first second

-- 600 dots per inch where both are accepted there, else 300
abbrev pub IsFiner : (widest : Profile) → (first second : List ℕ) → Dpi → Type 0
IsFiner widest first second Dpi600 = AreBothAccepted widest Dpi600 first second
IsFiner widest first second Dpi300 = IsOneRefused widest Dpi600 first second

-- two jobs are compared at the resolution that is asked for; or at the first at which both are accepted, and at 600 dots per inch where
-- they are the same at 300 and both are accepted there too
abbrev pub AreComparedAt : Resolution → (asks : Bool) → (widest : Profile) → (first second : List ℕ) → Dpi → Type 0
AreComparedAt (Given dpi) asks widest first second at = at ≡ dpi
AreComparedAt FirstAccepted asks widest first second Dpi300 =
    IsFirstCommon widest first second Dpi300
    × (AreUnlike asks widest Dpi300 first second ⊎ IsOneRefused widest Dpi600 first second)
AreComparedAt FirstAccepted asks widest first second Dpi600 =
    IsFirstCommon widest first second Dpi600
    ⊎ (IsFirstCommon widest first second Dpi300 × IsComparisonFor asks widest Dpi300 first second asked.Same
    × AreBothAccepted widest Dpi600 first second)

-- the bytes of the two files, each of the one that is asked for by its name
pub record BothRead {F : Type 0} (acts : F → FileAct → F → Type 0) (files : F) (asked : ComparedFiles) (first second : Vec ℕ) : Type 0 where
  pub first_is : IsFileRead acts files asked.first.now (Ok first)
  pub second_is : IsFileRead acts files asked.second.now (Ok second)

-- the first of the two files that can't be read fails so
abbrev pub IsOneUnread : {F : Type 0} → (F → FileAct → F → Type 0) → F → ComparedFiles → Fault → Type 0
IsOneUnread acts files asked unread =
    IsFileRead acts files asked.first.now (Err unread)
    ⊎ ((first : Vec ℕ) × IsFileRead acts files asked.first.now (Ok first) × IsFileRead acts files asked.second.now (Err unread))

-- the bytes of the two files, and the resolution at which they are seen
pub record AreFilesSeen {F : Type 0} (acts : F → FileAct → F → Type 0) (files : F) (asked : ComparedFiles) : Type 0 where
  pub first : Vec ℕ
  pub second : Vec ℕ
  pub read : BothRead acts files asked first second
  pub dpi : Dpi
  pub seen : AreComparedAt asked.resolution asked.asks asked.profile first.items second.items dpi

-- the first of the two jobs that is refused is so
abbrev pub IsRefusedOf : {F : Type 0} → (F → FileAct → F → Type 0) → F → ComparedFiles → Which → Refusal → Type 0
IsRefusedOf acts files asked which refusal =
    (seen : AreFilesSeen acts files asked)
    × IsCompared asked.profile seen.dpi seen.first.items seen.second.items (Err (same.Refused which refusal))

-- the comparison is right of the bytes of the two files, and this becomes of the image
abbrev pub IsComparedAndDrawn : {F : Type 0} → (F → FileAct → F → Type 0) → ComparedFiles → (files kept : F) → AskedComparison
    → Result (Unit {0}) Fault → Type 0
IsComparedAndDrawn acts asked files kept comparison drawn =
    (seen : AreFilesSeen acts files asked)
    × IsComparisonFor asked.asks asked.profile seen.dpi seen.first.items seen.second.items comparison
    × IsImageDrawn acts asked.image asked.profile seen.dpi seen.first.items seen.second.items (of_pages comparison) files kept drawn

-- The image that is asked for is drawn, and then the line of the comparison is written: nothing where a fault came before, and a
-- prefix of the line where its write failed. No file is made but for the image.
abbrev pub IsCompareRun : {F : Type 0} → (F → FileAct → F → Type 0) → ComparedFiles → (files kept : F) → (old new : Option (List ℕ))
    → Result AskedComparison CompareFault → Type 0
IsCompareRun acts asked files kept old new (Ok comparison) =
    IsComparedAndDrawn acts asked files kept comparison (Ok tt) × Appends old new (comparison_line_of asked.layout comparison)
IsCompareRun acts asked files kept old new (Err (Refused which refusal)) =
    (kept ≡ files) × IsRefusedOf acts files asked which refusal × Keeps old new
IsCompareRun acts asked files kept old new (Err (Failed fault.WriteFault)) =
    (comparison : AskedComparison) × ((IsComparedAndDrawn acts asked files kept comparison (Err fault.WriteFault) × Keeps old new)
    ⊎ (IsComparedAndDrawn acts asked files kept comparison (Ok tt) × AppendsFront old new (comparison_line_of asked.layout comparison)))
IsCompareRun acts asked files kept old new (Err (Failed fault.ReadFault)) =
    (kept ≡ files) × IsOneUnread acts files asked fault.ReadFault × Keeps old new
IsCompareRun acts asked files kept old new (Err (Failed fault.TooLong)) =
    (kept ≡ files) × IsOneUnread acts files asked fault.TooLong × Keeps old new
IsCompareRun acts asked files kept old new (Err (Failed fault.Memory)) =
    ((kept ≡ files) ⊎ ((comparison : AskedComparison) × IsComparedAndDrawn acts asked files kept comparison (Err fault.Memory)))
    × Keeps old new
IsCompareRun acts asked files kept old new (Err (Failed (fault.Refused refusal))) = ⊥
IsCompareRun acts asked files kept old new (Err (Failed fault.CertificateTooLong)) = ⊥
IsCompareRun acts asked files kept old new (Err (Failed fault.NoSuchPage)) = ⊥
