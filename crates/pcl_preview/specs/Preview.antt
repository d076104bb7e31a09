-- What a preview writes, and what each fault says.
use Rattle.std.specs.Prelude.{◌≡◌, ℕ, ◌-◌, ◌<◌, List, length, ◌⊎◌, Option, Some, Result, Ok, Err, slice_get}
use Rattle.std.specs.Io.KnownBytes.{Appends, Keeps}
use Rattle.pcl_base.specs.declared.dpi.Dpi.{Dpi}
use Rattle.pcl_base.specs.declared.profile.Profile.{Profile}
use Rattle.pcl_base.specs.declared.profile.Profile.TheVariants.{Stated}
use Rattle.pcl_bitmap.specs.Bitmap.{Picture}
use Rattle.pcl_bitmap.specs.declared.page.Page.{Page}
use Rattle.pcl_page.specs.Situation.{Sheet}
use Rattle.pcl_page.specs.Performing.{Shows}
use Rattle.pcl_page.specs.Jobs.{HasPagesBy}
use Rattle.pcl_page.specs.Delivering.{IsRefusal, IsRefusalBy}
use Rattle.pcl_streams.specs.declared.fault.Fault.{Fault}
use Rattle.pcl_streams.specs.declared.fault.Fault.TheVariants.{Refused, Memory, ReadFault, TooLong, WriteFault, NoSuchPage}
use Rattle.pcl_streams.specs.Transfer.{AppendsFront}
use Rattle.pcl_preview.specs.Image.{image_of}

-- by a profile the page of this number, counted from 1, has these dots
pub record HasPage (profile : Profile) (dpi : Dpi) (job : List ℕ) (number : ℕ) (picture : Picture) : Type 0 where
  pub pages : List Sheet
  pub meaning : HasPagesBy profile dpi job pages
  pub counted : 0 < number
  pub sheet : Sheet
  pub chosen : slice_get pages (number - 1) ≡ Some sheet
  pub page : Page
  pub shows : Shows dpi page sheet
  pub dots : picture ≡ page.bitmap

-- the bytes are the image of that page, by the stated profile
abbrev pub IsImageOf : Dpi → List ℕ → ℕ → List ℕ → Type 0
IsImageOf dpi job number bytes = (picture : Picture) × HasPage Stated dpi job number picture × (bytes ≡ image_of picture)

-- an accepted job has no page of this number
pub record HasNoPage (profile : Profile) (dpi : Dpi) (job : List ℕ) (number : ℕ) : Type 0 where
  pub pages : List Sheet
  pub meaning : HasPagesBy profile dpi job pages
  pub outside : (number ≡ 0) ⊎ (length pages < number)

abbrev pub IsPageDots : Profile → Dpi → List ℕ → ℕ → Result Picture Fault → Type 0
IsPageDots profile dpi job number (Ok picture) = HasPage profile dpi job number picture
IsPageDots profile dpi job number (Err (Refused refusal)) = IsRefusalBy profile dpi job refusal
IsPageDots profile dpi job number (Err NoSuchPage) = HasNoPage profile dpi job number
IsPageDots profile dpi job number (Err Memory) = Unit {0}
IsPageDots profile dpi job number (Err fault) = ⊥

abbrev pub IsPreview : Dpi → List ℕ → ℕ → Option (List ℕ) → Option (List ℕ) → Result (Unit {0}) Fault → Type 0
IsPreview dpi job number old new (Ok unit) = (bytes : List ℕ) × IsImageOf dpi job number bytes × Appends old new bytes
IsPreview dpi job number old new (Err WriteFault) = (bytes : List ℕ) × IsImageOf dpi job number bytes × AppendsFront old new bytes
IsPreview dpi job number old new (Err (Refused refusal)) = IsRefusal dpi job refusal × Keeps old new
IsPreview dpi job number old new (Err NoSuchPage) = HasNoPage Stated dpi job number × Keeps old new
IsPreview dpi job number old new (Err Memory) = Keeps old new
IsPreview dpi job number old new (Err fault) = ⊥
