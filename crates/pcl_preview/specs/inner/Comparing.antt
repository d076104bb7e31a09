-- A sink that compares bytes with the images of pages.
use Rattle.std.specs.Prelude.{◌≡◌, ◌≢◌, ℕ, List, ◌++◌, Option, Some, None}
use Rattle.std.specs.Borrow.{Bor}
use Rattle.pcl_bitmap.specs.declared.page.Page.{Page}
use Rattle.pcl_preview.specs.declared.page_comparison.Compared.TheInside.{Inside}
use Rattle.pcl_preview.specs.Image.{image_of}

abbrev pub left_bytes : Option (Bor (List ℕ)) → Option (List ℕ)
left_bytes None = None
left_bytes (Some bytes) = Some bytes.now

-- what is to be the images of the pages to come, as long as all images were the same
abbrev pub comparing : Inside → Option (List ℕ)
comparing a = left_bytes a.left

-- what is left of bytes after these first ones, and nothing where they begin otherwise
abbrev pub IsLeftAfter : (first : List ℕ) → (old new : Option (List ℕ)) → Type 0
IsLeftAfter first None new = new ≡ None
IsLeftAfter first (Some bytes) None = (rest : List ℕ) → bytes ≢ first ++ rest
IsLeftAfter first (Some bytes) (Some rest) = bytes ≡ first ++ rest

-- after a page its image is taken off
abbrev pub TakesImageOff : Option (List ℕ) → Page → Option (List ℕ) → Type 0
TakesImageOff old page new = IsLeftAfter (image_of page.bitmap) old new
