-- Pages that are the same.
use Rattle.std.specs.Prelude.{◌≡◌}
use Rattle.pcl_bitmap.specs.declared.page.Page.{Page}

-- two pages with the same contents
pub record IsSamePage (page other : Page) : Type 0 where
  pub size : other.size ≡ page.size
  pub copies : other.copies ≡ page.copies
  pub resolution : other.dpi ≡ page.dpi
  pub bitmap : other.bitmap ≡ page.bitmap
