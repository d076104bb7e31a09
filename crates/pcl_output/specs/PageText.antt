-- Page texts, and the page that each prints.
use Rattle.std.specs.Prelude.{◌≡◌, ℕ, zero, suc, ◌<◌, ◌≤◌, false, List, [], ◌∷◌, ◌++◌, length, take, drop, replicate}
use Rattle.std.specs.List.{flat_map, AllByRecursion}
use Rattle.pcl_base.specs.declared.dpi.Dpi.{Dpi}
use Rattle.pcl_base.specs.declared.method.Method.TheVariants.{Plain}
use Rattle.pcl_base.specs.declared.size.Size.{Size}
use Rattle.pcl_base.specs.Limits.{copies_limit}
use Rattle.pcl_base.specs.Size.{page_width, page_height, page_row_bytes}
use Rattle.pcl_bitmap.specs.Bitmap.{Picture, dot_of_row}
use Rattle.pcl_bitmap.specs.declared.page.Page.{Page}
use Rattle.pcl_output.specs.Tokens.{Token, token_bytes, PrintsRows, start_bytes, end_bytes}

-- this many rows of this many bytes
unfoldable pub rows_from : ℕ → ℕ → List ℕ → List (List ℕ)
rows_from zero width bytes = []
rows_from (suc count) width bytes = take width bytes ∷ rows_from count width (drop width bytes)

-- the rows of a bitmap, from the topmost on
abbrev pub bitmap_rows : Picture → List (List ℕ)
bitmap_rows picture = rows_from (page_height picture.size picture.dpi) (page_row_bytes picture.size picture.dpi) picture.bytes

-- a row of a page of this size: as long as its rows are, with no dot past its width
abbrev pub IsRowOf : Size → Dpi → List ℕ → Type 0
IsRowOf size dpi row = (length row ≡ page_row_bytes size dpi) × ((x : ℕ) → page_width size dpi ≤ x → dot_of_row row x ≡ false)

-- a text that prints this many copies of a page of this size, whose rows are these
pub record IsPageText (dpi : Dpi) (size : Size) (copies : ℕ) (rows : List (List ℕ)) (text : List ℕ) : Type 0 where
  pub some_copies : 0 < copies
  pub few_copies : copies ≤ copies_limit
  pub count : length rows ≡ page_height size dpi
  pub rows_are : AllByRecursion (IsRowOf size dpi) rows
  pub tokens : List Token
  pub spelled : text ≡ start_bytes dpi copies size ++ flat_map token_bytes tokens ++ end_bytes
  pub prints : PrintsRows false Plain (replicate (page_row_bytes size dpi) 0) tokens rows

-- the text prints the page
abbrev pub PrintsPage : Page → List ℕ → Type 0
PrintsPage page text = IsPageText page.dpi page.size page.copies (bitmap_rows page.bitmap) text
