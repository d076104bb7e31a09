-- What is kept of the last rectangle that was filled.
use Rattle.std.specs.Prelude.{◌≡◌, ℕ, ◌<◌, true}
use Rattle.pcl_base.specs.Size.{page_width, page_height}
use Rattle.pcl_bitmap.specs.Bitmap.{Picture, IsPicture, dot}
use Rattle.pcl_bitmap.specs.Dots.{is_black_ink, rectangle_dot}
use Rattle.pcl_bitmap.specs.declared.filled.Filled.{Filled}

-- all dots of an area have its ink
abbrev pub HasInk : Picture → Filled → Type 0
HasInk p filled = (x y : ℕ) → x < page_width p.size p.dpi → y < page_height p.size p.dpi
    → rectangle_dot filled.area.x filled.area.y filled.area.width filled.area.height x y ≡ true → dot p x y ≡ is_black_ink filled.ink

-- a picture, and an area whose dots have its ink
pub record IsBitmap (p : Picture) (filled : Filled) : Type 0 where
  pub picture : IsPicture p
  pub inked : HasInk p filled
