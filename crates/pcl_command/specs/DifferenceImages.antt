-- Images of the dots in which two jobs differ.
use Rattle.std.specs.Prelude.{◌≡◌, ◌⊎◌, ℕ, List, Option, Some, None, Result, Ok, Err}
use Rattle.std.specs.Borrow.{Bor}
use Rattle.pcl_base.specs.declared.dpi.Dpi.{Dpi}
use Rattle.pcl_base.specs.declared.profile.Profile.{Profile}
use Rattle.pcl_bitmap.specs.Bitmap.{Picture}
use Rattle.pcl_streams.specs.declared.fault.Fault.{Fault}
use Rattle.pcl_streams.specs.declared.fault.Fault.TheVariants.{Refused, Memory, ReadFault, TooLong, CertificateTooLong, WriteFault, NoSuchPage}
use Rattle.pcl_preview.specs.Image.{IsImageWritten}
use Rattle.pcl_preview.specs.Preview.{HasPage}
use Rattle.pcl_same.specs.declared.comparison.PageComparison.{PageComparison}
use Rattle.pcl_same.specs.declared.comparison.PageComparison.TheVariants.{Page}
use Rattle.pcl_same.specs.declared.comparison.Difference.TheVariants.{Dot}
use Rattle.pcl_same.specs.Comparing.{AreReadBy, IsComparison}
use Rattle.pcl_same.specs.DifferingDots.{IsDifference}
use Rattle.pcl_files.specs.Files.{FileAct, Begun, Unbegun, write_fault_of}
use Rattle.pcl_files.specs.WholeFiles.{IsSettled}
use Rattle.pcl_files.specs.declared.files.FileFault.{FileFault}

-- the page where the first difference is one of dots
abbrev pub dotted_page : PageComparison → Option ℕ
dotted_page (Page number (Dot x y)) = Some number
dotted_page other = None

-- the jobs compare so that the pages of this number are the first that differ, in a dot
abbrev pub DifferInDots : (widest : Profile) → Dpi → (first second : List ℕ) → ℕ → Type 0
DifferInDots widest dpi first second number = (x y : ℕ) × IsComparison widest dpi first second (Page number (Dot x y))

-- an image that is black exactly where the pages of this number differ
pub record IsDifferenceOf (widest : Profile) (dpi : Dpi) (first second : List ℕ) (number : ℕ) (image : Picture) : Type 0 where
  pub profile : Profile
  pub read : AreReadBy widest profile dpi first second
  pub one : Picture
  pub one_is : HasPage profile dpi first number one
  pub other : Picture
  pub other_is : HasPage profile dpi second number other
  pub image_is : IsDifference one other image

-- that image, or memory ran out
abbrev pub IsDifferingPage : (widest : Profile) → Dpi → (first second : List ℕ) → ℕ → Result Picture Fault → Type 0
IsDifferingPage widest dpi first second number (Ok image) = IsDifferenceOf widest dpi first second number image
IsDifferingPage widest dpi first second number (Err Memory) = Unit {0}
IsDifferingPage widest dpi first second number (Err ReadFault) = ⊥
IsDifferingPage widest dpi first second number (Err TooLong) = ⊥
IsDifferingPage widest dpi first second number (Err CertificateTooLong) = ⊥
IsDifferingPage widest dpi first second number (Err WriteFault) = ⊥
IsDifferingPage widest dpi first second number (Err NoSuchPage) = ⊥
IsDifferingPage widest dpi first second number (Err (Refused refusal)) = ⊥

-- a file is begun for this name, gets the image, and is settled; or it can't be begun
abbrev pub IsImageMade : {F : Type 0} → (F → FileAct → F → Type 0) → List ℕ → Picture → (files kept : F) → Result (Unit {0}) Fault → Type 0
IsImageMade {F} acts name image files kept done =
    ((why : FileFault) × acts files (Unbegun name why) kept × (done ≡ Err (write_fault_of why)))
    ⊎ ((begun : F) × (held holds : Option (List ℕ)) × (written : Result (Unit {0}) Fault) × acts files (Begun name held) begun
    × IsImageWritten held holds image written × IsSettled acts name holds written begun kept done)

-- where no image is asked for, or no page differs in dots first, no file is begun; memory may run out before one is
abbrev pub IsImageDrawnTo : {F : Type 0} → (F → FileAct → F → Type 0) → Option (Bor (List ℕ)) → Option ℕ → (widest : Profile) → Dpi
    → (first second : List ℕ) → (files kept : F) → Result (Unit {0}) Fault → Type 0
IsImageDrawnTo acts (Some name) (Some number) widest dpi first second files kept done =
    ((kept ≡ files) × (done ≡ Err Memory))
    ⊎ ((image : Picture) × IsDifferenceOf widest dpi first second number image × IsImageMade acts name.now image files kept done)
IsImageDrawnTo acts name number widest dpi first second files kept done = (kept ≡ files) × (done ≡ Ok tt)

-- what becomes of the image of a comparison
abbrev pub IsImageDrawn : {F : Type 0} → (F → FileAct → F → Type 0) → Option (Bor (List ℕ)) → (widest : Profile) → Dpi
    → (first second : List ℕ) → PageComparison → (files kept : F) → Result (Unit {0}) Fault → Type 0
IsImageDrawn acts name widest dpi first second comparison files kept done =
    IsImageDrawnTo acts name (dotted_page comparison) widest dpi first second files kept done
