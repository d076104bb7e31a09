-- What a preview of several pages writes, and what each fault says.
use Rattle.std.specs.Prelude.{◌≡◌, ◌≢◌, ℕ, suc, ◌+◌, ◌<◌, ◌≤◌, nat_le, nat_lt, ◌==◌, ◌&&◌, ◌||◌, if◌then◌else◌, Bool, true, false, List, [], ◌∷◌, ◌++◌, length, slice_index_or, Option, Result, Ok, Err}
use Rattle.std.specs.Global.{Vec}
use Rattle.std.specs.Io.KnownBytes.{Appends, Keeps}
use Rattle.pcl_base.specs.Limits.{page_limit}
use Rattle.pcl_base.specs.declared.dpi.Dpi.{Dpi}
use Rattle.pcl_base.specs.declared.profile.Profile.{Profile}
use Rattle.pcl_bitmap.specs.Bitmap.{Picture}
use Rattle.pcl_bitmap.specs.declared.page.Page.{Page}
use Rattle.pcl_page.specs.Situation.{Sheet}
use Rattle.pcl_page.specs.Jobs.{HasPagesBy}
use Rattle.pcl_page.specs.Delivering.{AllShow, IsRefusalBy}
use Rattle.pcl_streams.specs.declared.fault.Fault.{Fault}
use Rattle.pcl_streams.specs.declared.fault.Fault.TheVariants.{Refused, Memory, ReadFault, TooLong, WriteFault, NoSuchPage}
use Rattle.pcl_preview.specs.declared.form.ImageForm.{ImageForm}
use Rattle.pcl_preview.specs.declared.form.ImageForm.TheVariants.{Bitmap, Greymap}
use Rattle.pcl_preview.specs.declared.page_images.PageChoice.{PageChoice}
use Rattle.pcl_preview.specs.declared.page_images.PageChoice.TheVariants.{All, Listed}
use Rattle.pcl_preview.specs.declared.page_images.PageSet.{PageSet}
use Rattle.pcl_streams.specs.JobFaults.{RefusedOrMemory}
use Rattle.pcl_streams.specs.Transfer.{AppendsFront}
use Rattle.pcl_preview.specs.Image.{image_of}
use Rattle.pcl_preview.specs.Greymap.{greymap_of}

-- whether the page is one of a set that comes after this many others
abbrev pub is_listed : ℕ → PageSet → Bool
is_listed before set = slice_index_or set.flags before false

-- whether it lies between two numbers, counted from 1
abbrev pub is_between : (first last before : ℕ) → Bool
is_between first last before = nat_le first (before + 1) && nat_lt before last

-- a set has the pages of another, and those from one number to another
abbrev pub HasWith : (first last : ℕ) → (old new : PageSet) → Type 0
HasWith first last old new =
    (before : ℕ) → before < page_limit → is_listed before new ≡ (is_listed before old || is_between first last before)

-- those pages of which a flag says that they are asked for: the first flag tells of the first page
abbrev pub those_listed : List Bool → List Page → List Page
those_listed [] pages = []
those_listed (flag ∷ flags) [] = []
those_listed (flag ∷ flags) (page ∷ later) = if flag then page ∷ those_listed flags later else those_listed flags later

-- how many pages there are up to the last that is asked for
abbrev pub last_listed : List Bool → ℕ
last_listed [] = 0
last_listed (flag ∷ flags) = if last_listed flags == 0 then (if flag then 1 else 0) else suc (last_listed flags)

-- the pages that are asked for
abbrev pub chosen : PageChoice → List Page → List Page
chosen All pages = pages
chosen (Listed set) pages = those_listed set.flags pages

-- the number of the last page that is asked for by its number, 0 where none is
abbrev pub last_page : PageChoice → ℕ
last_page All = 0
last_page (Listed set) = last_listed set.flags

-- of this many pages none is missing that is asked for
abbrev pub AreThere : PageChoice → ℕ → Type 0
AreThere choice number = last_page choice ≤ number

-- the image of a page in a form
abbrev pub image_in : ImageForm → Picture → List ℕ
image_in Bitmap picture = image_of picture
image_in (Greymap scale) picture = greymap_of scale picture

-- one image after the other
abbrev pub images_in : ImageForm → List Page → List ℕ
images_in form [] = []
images_in form (page ∷ later) = image_in form page.bitmap ++ images_in form later

-- the bytes are the images in a form of the pages of a job that a profile accepts that are asked for
pub record AreImagesIn (form : ImageForm) (profile : Profile) (dpi : Dpi) (job : List ℕ) (choice : PageChoice)
    (bytes : List ℕ) : Type 0 where
  pub sheets : List Sheet
  pub meaning : HasPagesBy profile dpi job sheets
  pub there : AreThere choice (length sheets)
  pub pages : List Page
  pub show : AllShow dpi pages sheets
  pub images : bytes ≡ images_in form (chosen choice pages)

-- the same in the form of bitmaps
abbrev pub AreImagesOf : Profile → Dpi → List ℕ → PageChoice → List ℕ → Type 0
AreImagesOf profile dpi job choice bytes = AreImagesIn Bitmap profile dpi job choice bytes

-- the images of all pages of an accepted job are others than these
abbrev pub HasOtherImages : Profile → Dpi → (job images : List ℕ) → Type 0
HasOtherImages profile dpi job images = (printed : List ℕ) × AreImagesOf profile dpi job All printed × (printed ≢ images)

-- whether these are the images of all pages of a job
abbrev pub SaysIfImages : Profile → Dpi → (job images : List ℕ) → Result Bool Fault → Type 0
SaysIfImages profile dpi job images (Ok true) = AreImagesOf profile dpi job All images
SaysIfImages profile dpi job images (Ok false) = HasOtherImages profile dpi job images
SaysIfImages profile dpi job images (Err fault) = RefusedOrMemory (IsRefusalBy profile dpi job) fault

-- a page that is asked for is missing in an accepted job
abbrev pub LacksPage : Profile → Dpi → List ℕ → PageChoice → Type 0
LacksPage profile dpi job choice = (sheets : List Sheet) × HasPagesBy profile dpi job sheets × (AreThere choice (length sheets) → ⊥)

abbrev pub ArePageImages : ImageForm → Profile → Dpi → List ℕ → PageChoice → Result (Vec ℕ) Fault → Type 0
ArePageImages form profile dpi job choice (Ok images) = AreImagesIn form profile dpi job choice images.items
ArePageImages form profile dpi job choice (Err (Refused refusal)) = IsRefusalBy profile dpi job refusal
ArePageImages form profile dpi job choice (Err NoSuchPage) = LacksPage profile dpi job choice
ArePageImages form profile dpi job choice (Err Memory) = Unit {0}
ArePageImages form profile dpi job choice (Err fault) = ⊥

-- the images are written; a prefix of them where a write fails, and nothing after any other fault
abbrev pub IsPagesPreview : ImageForm → Profile → Dpi → List ℕ → PageChoice → (old new : Option (List ℕ)) → Result (Unit {0}) Fault → Type 0
IsPagesPreview form profile dpi job choice old new (Ok unit) =
    (bytes : List ℕ) × AreImagesIn form profile dpi job choice bytes × Appends old new bytes
IsPagesPreview form profile dpi job choice old new (Err WriteFault) =
    (bytes : List ℕ) × AreImagesIn form profile dpi job choice bytes × AppendsFront old new bytes
IsPagesPreview form profile dpi job choice old new (Err (Refused refusal)) = IsRefusalBy profile dpi job refusal × Keeps old new
IsPagesPreview form profile dpi job choice old new (Err NoSuchPage) = LacksPage profile dpi job choice × Keeps old new
IsPagesPreview form profile dpi job choice old new (Err Memory) = Keeps old new
IsPagesPreview form profile dpi job choice old new (Err fault) = ⊥
