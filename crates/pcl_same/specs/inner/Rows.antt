-- Rows of dots, and rows as row data.
use Rattle.std.specs.Prelude.{◌≡◌, ◌≢◌, ℕ, ◌+◌, ◌<◌, ◌≤◌, List, ◌++◌, length, Option, Some, None, slice_index}
use Rattle.pcl_base.specs.declared.method.Method.TheVariants.{Delta}
use Rattle.pcl_base.specs.Size.{page_width, page_height}
use Rattle.pcl_bitmap.specs.Bitmap.{Picture, bit_of_byte, dot, dot_of_row}
use Rattle.pcl_rows.specs.Decoding.{decoded}
use Rattle.pcl_same.specs.Differing.{IsFirstDot}

-- ---- the first place at which rows differ

-- the leftmost bit at which two bytes differ
pub record IsFirstBit (one other k : ℕ) : Type 0 where
  pub within : k < 8
  pub differs : bit_of_byte one k ≢ bit_of_byte other k
  pub same : (j : ℕ) → j < k → bit_of_byte one j ≡ bit_of_byte other j

-- the leftmost dot at which two rows differ
pub record IsFirstDotOfRow (one other : List ℕ) (x : ℕ) : Type 0 where
  pub differs : dot_of_row one x ≢ dot_of_row other x
  pub same : (px : ℕ) → px < x → dot_of_row one px ≡ dot_of_row other px

-- the first dot at which two bitmaps of one size and resolution differ, none where they are the same
abbrev pub IsFirstDotOf : Picture → Picture → Option (ℕ × ℕ) → Type 0
IsFirstDotOf p q None = p ≡ q
IsFirstDotOf p q (Some place) = IsFirstDot (page_width p.size p.dpi) (page_height p.size p.dpi) (dot p) (dot q) place.0 place.1

-- ---- rows as row data

-- new is old with more at its end
abbrev pub Appends : List ℕ → List ℕ → Type 0
Appends old new = (more : List ℕ) × (new ≡ old ++ more)

-- new is old with data at its end that makes the row over the row above it
pub record AppendsRowData (above row old new : List ℕ) : Type 0 where
  pub bytes : List ℕ
  pub joined : new ≡ old ++ bytes
  pub decodes : row ≡ decoded Delta above bytes

-- a piece of the bytes begins at start number k and ends at the next
pub record IsKeptPiece (bytes starts : List ℕ) (k : ℕ) : Type 0 where
  pub order : slice_index starts k ≤ slice_index starts (k + 1)
  pub within : slice_index starts (k + 1) ≤ length bytes
