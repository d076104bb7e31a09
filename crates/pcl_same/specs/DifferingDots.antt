-- The dots at which two pages differ.
use Rattle.std.specs.Prelude.{◌≡◌, ℕ, ◌<◌, Bool, true, false, not}
use Rattle.pcl_base.specs.Size.{page_width, page_height}
use Rattle.pcl_bitmap.specs.Bitmap.{Picture, dot}

-- whether two dots differ
abbrev pub differ : Bool → Bool → Bool
differ true other = not other
differ false other = other

-- an image that is black exactly where two bitmaps differ
pub record IsDifference (one other image : Picture) : Type 0 where
  pub size : image.size ≡ one.size
  pub resolution : image.dpi ≡ one.dpi
  pub dots : (x y : ℕ) → x < page_width one.size one.dpi → y < page_height one.size one.dpi
      → dot image x y ≡ differ (dot one x y) (dot other x y)
