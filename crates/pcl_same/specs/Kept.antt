-- What is kept of the pages of a job: their sizes and copies, and each row as data of method 3 over the row above it.
use Rattle.std.specs.Prelude.{◌≡◌, ℕ, zero, suc, ◌+◌, ◌<◌, List, [], ◌∷◌, ◌++◌, replicate, slice_index, slice_range, Option, Some, None}
use Rattle.std.specs.Option.{option_map}
use Rattle.std.specs.Global.{Vec}
use Rattle.pcl_base.specs.declared.dpi.Dpi.{Dpi}
use Rattle.pcl_base.specs.declared.method.Method.TheVariants.{Delta}
use Rattle.pcl_base.specs.Size.{page_height, page_row_bytes}
use Rattle.pcl_bitmap.specs.Bitmap.{Picture, row_of}
use Rattle.pcl_bitmap.specs.declared.page.Page.{Page}
use Rattle.pcl_rows.specs.Decoding.{decoded}
use Rattle.pcl_page.specs.Situation.{Sheet}
use Rattle.pcl_page.specs.Performing.{Shows}
use Rattle.pcl_same.specs.declared.keeping.KeptPage.{KeptPage}
use Rattle.pcl_same.specs.declared.keeping.PageKeeper.{PageKeeper}
use Rattle.pcl_same.specs.declared.kept_bitmap.KeptBitmap.{KeptBitmap}

-- ---- rows

-- the piece of the bytes from start number k to the next
abbrev pub piece : List ℕ → List ℕ → ℕ → List ℕ
piece bytes starts k = slice_range bytes (slice_index starts k) (slice_index starts (k + 1))

-- the row above row y, white above the topmost one
abbrev pub picture_row_above : Picture → ℕ → List ℕ
picture_row_above p zero = replicate (page_row_bytes p.size p.dpi) 0
picture_row_above p (suc y) = row_of p y

-- data makes row y over the row above it
abbrev pub MakesRow : Picture → ℕ → List ℕ → Type 0
MakesRow p y bytes = row_of p y ≡ decoded Delta (picture_row_above p y) bytes

-- ---- pages

-- the data of row y
abbrev pub data_of : KeptBitmap → ℕ → List ℕ
data_of kept y = piece kept.data.items kept.starts.items y

-- each row of the bitmap is kept
pub record KeepsPicture (p : Picture) (kept : KeptBitmap) : Type 0 where
  pub size : kept.size ≡ p.size
  pub resolution : kept.dpi ≡ p.dpi
  pub rows : (y : ℕ) → y < page_height p.size p.dpi → MakesRow p y (data_of kept y)

-- the page is kept
pub record KeepsPage (page : Page) (kept : KeptPage) : Type 0 where
  pub copies : kept.copies ≡ page.copies
  pub bitmap : KeepsPicture page.bitmap kept.bitmap

-- a page more is kept
abbrev pub KeepsMore : List KeptPage → Page → List KeptPage → Type 0
KeepsMore old page new = (kept : KeptPage) × (new ≡ old ++ kept ∷ []) × KeepsPage page kept

-- the same of pages that are kept as long as they take few bytes
abbrev pub KeepsWithin : Option (List KeptPage) → Page → Option (List KeptPage) → Type 0
KeepsWithin old page None = Unit {0}
KeepsWithin None page (Some new) = ⊥
KeepsWithin (Some old) page (Some new) = KeepsMore old page new

-- the pages that a keeper has, if it has all
abbrev pub kept_pages : PageKeeper → Option (List KeptPage)
kept_pages keeper = option_map (λ (pages : Vec KeptPage). pages.items) keeper.pages

-- pages that show the sheets are kept, one by one
abbrev pub KeepAll : Dpi → List Sheet → List KeptPage → Type 0
KeepAll dpi [] [] = Unit {0}
KeepAll dpi [] (kept ∷ others) = ⊥
KeepAll dpi (sheet ∷ sheets) [] = ⊥
KeepAll dpi (sheet ∷ sheets) (kept ∷ others) =
    (page : Page) × Shows dpi page sheet × KeepsPage page kept × KeepAll dpi sheets others

-- the same where all are kept
abbrev pub KeepAllIfAny : Dpi → List Sheet → Option (List KeptPage) → Type 0
KeepAllIfAny dpi sheets None = Unit {0}
KeepAllIfAny dpi sheets (Some kept) = KeepAll dpi sheets kept
