-- A sink that writes images of the pages that are asked for.
use Rattle.std.specs.Prelude.{◌≡◌, ℕ, Bool, true, false, List, length, Option, Result, Ok, Err}
use Rattle.std.specs.Io.KnownBytes.{Appends}
use Rattle.pcl_base.specs.declared.dpi.Dpi.{Dpi}
use Rattle.pcl_base.specs.declared.profile.Profile.{Profile}
use Rattle.pcl_bitmap.specs.declared.page.Page.{Page}
use Rattle.pcl_page.specs.Situation.{Sheet}
use Rattle.pcl_page.specs.Jobs.{HasPagesBy}
use Rattle.pcl_page.specs.Delivering.{AllShow, IsRefusalBy}
use Rattle.pcl_streams.specs.declared.fault.Fault.{Fault}
use Rattle.pcl_streams.specs.declared.fault.Fault.TheVariants.{Refused, Memory, WriteFault, NoSuchPage}
use Rattle.pcl_streams.specs.Transfer.{AppendsFront}
use Rattle.pcl_preview.specs.declared.form.ImageForm.{ImageForm}
use Rattle.pcl_preview.specs.declared.form.ImageForm.TheVariants.{Greymap}
use Rattle.pcl_preview.specs.declared.form.Scale.{Scale}
use Rattle.pcl_preview.specs.declared.page_images.PageChoice.{PageChoice}
use Rattle.pcl_preview.specs.declared.streamed_images.Streamed.{Streamed}
use Rattle.pcl_preview.specs.PageImages.{AreImagesIn, AreThere, LacksPage}
use Rattle.pcl_preview.specs.StreamedImages.{WritesFront}
use Rattle.pcl_preview.specs.inner.Showing.{later, left_among, next_image}

-- how far a sink has come: which of the pages to come are listed, and what the writer holds, which is the one of this name
pub record Streaming : Type 0 where
  pub left : Option (List Bool)
  pub scale : Scale
  pub name : ℕ
  pub held : Option (List ℕ)
  pub has_failed : Bool

abbrev pub streaming : {W : Type 0} → (W → Option (List ℕ)) → Streamed W → Streaming
streaming contents a =
    record {
      left = left_among a.is_all a.flags.now;
      scale = a.scale;
      name = a.out.ghost_name;
      held = contents a.out.now;
      has_failed = a.has_failed;
    }

-- the bytes are written, or a prefix of them where a write fails; nothing is written after a write that failed
abbrev pub IsWrittenUnless : (had_failed has_failed : Bool) → (old new : Option (List ℕ)) → List ℕ → Type 0
IsWrittenUnless true has_failed old new bytes = (has_failed ≡ true) × (new ≡ old)
IsWrittenUnless false true old new bytes = AppendsFront old new bytes
IsWrittenUnless false false old new bytes = Appends old new bytes

-- the image of a page is written to the same writer, where the page is asked for
pub record StreamsNext (old : Streaming) (page : Page) (new : Streaming) : Type 0 where
  pub left : new.left ≡ later old.left
  pub scale : new.scale ≡ old.scale
  pub name : new.name ≡ old.name
  pub written : IsWrittenUnless old.has_failed new.has_failed old.held new.held (next_image (Greymap old.scale) old.left page)

-- a profile accepts the job, the pages that are asked for are there, and it was performed to pages that show what it means
pub record HasChosenPages (profile : Profile) (dpi : Dpi) (job : List ℕ) (choice : PageChoice) : Type 0 where
  pub sheets : List Sheet
  pub meaning : HasPagesBy profile dpi job sheets
  pub there : AreThere choice (length sheets)
  pub pages : List Page
  pub show : AllShow dpi pages sheets

abbrev pub ArePagesFound : Profile → Dpi → List ℕ → PageChoice → Result (Unit {0}) Fault → Type 0
ArePagesFound profile dpi job choice (Ok unit) = HasChosenPages profile dpi job choice
ArePagesFound profile dpi job choice (Err (Refused refusal)) = IsRefusalBy profile dpi job refusal
ArePagesFound profile dpi job choice (Err NoSuchPage) = LacksPage profile dpi job choice
ArePagesFound profile dpi job choice (Err Memory) = Unit {0}
ArePagesFound profile dpi job choice (Err fault) = ⊥

-- the images of an accepted job are written; a prefix of them where a write fails or memory runs out, and no other fault comes
abbrev pub AreImagesWritten : ImageForm → Profile → Dpi → List ℕ → PageChoice → (old new : Option (List ℕ)) → Result (Unit {0}) Fault
    → Type 0
AreImagesWritten form profile dpi job choice old new (Ok unit) =
    (bytes : List ℕ) × AreImagesIn form profile dpi job choice bytes × Appends old new bytes
AreImagesWritten form profile dpi job choice old new (Err WriteFault) = WritesFront form profile dpi job choice old new
AreImagesWritten form profile dpi job choice old new (Err Memory) = WritesFront form profile dpi job choice old new
AreImagesWritten form profile dpi job choice old new (Err fault) = ⊥
