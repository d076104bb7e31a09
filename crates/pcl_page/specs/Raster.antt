-- Rasters: where their rows lie, and what each command does to one that has begun.
use Rattle.std.specs.Prelude.{ℕ, ◌+◌, ◌-◌, ◌*◌, ◌/◌, ◌^◌, Bool, true, false, not, ◌&&◌, nat_lt, min, max, unwrap_or, List, [], ◌∷◌, replicate, Option, Some, None}
use Rattle.pcl_base.specs.declared.dpi.Dpi.{Dpi}
use Rattle.pcl_base.specs.declared.operation.Operation.{Operation}
use Rattle.pcl_base.specs.declared.operation.Operation.TheVariants.{RasterResolution, RasterWidth, RasterHeight, RasterPresentation, StartRaster, RasterMethod, SeedRowSource, RasterOffset, RasterRow}
use Rattle.pcl_base.specs.declared.method.Method.{Method}
use Rattle.pcl_base.specs.Dpi.{dots_per_inch}
use Rattle.pcl_base.specs.Size.{page_width}
use Rattle.pcl_bitmap.specs.Dots.{raster_dot}
use Rattle.pcl_bitmap.specs.declared.ink.Ink.TheVariants.{Black}
use Rattle.pcl_rows.specs.Decoding.{decoded}
use Rattle.pcl_env.specs.Settings.{Settings}
use Rattle.pcl_page.specs.Marks.{Mark, dot_at}

-- A raster that has begun: the dot where it starts, how many dots of the page one of its dots is wide, its width in its own
-- dots, its height
-- where one is set, how many rows were sent or skipped, and the seed row.
pub record Raster : Type 0 where
  pub left : ℕ
  pub top : ℕ
  pub scale : ℕ
  pub width : ℕ
  pub height : Option ℕ
  pub rows : ℕ
  pub seed : List ℕ

-- ---- the start

-- a resolution finer than the page's isn't taken, so this is a whole number from 1 on
abbrev pub scale_of : Dpi → ℕ → ℕ
scale_of dpi resolution = max 1 (dots_per_inch dpi / resolution)

-- eight raster dots to a byte
abbrev pub bytes_of_width : ℕ → ℕ
bytes_of_width width = (width + 7) / 8

-- A raster starts at a dot of the cursor's row, with a seed row of zeros. It has the width that is set, or else as many dots as reach the
-- page's right edge, the last perhaps cut.
abbrev pub raster_from : Dpi → ℕ → Settings → Raster
raster_from dpi left s =
    let scale = scale_of dpi s.resolution in
    let width = unwrap_or s.raster_width ((page_width s.size dpi - left + (scale - 1)) / scale) in
    record {
      left = left;
      top = dot_at dpi s.cursor.y;
      scale = scale;
      width = width;
      height = s.raster_height;
      rows = 0;
      seed = replicate (bytes_of_width width) 0;
    }

-- ---- rows

-- the count of rows stops at the height
abbrev pub counted_to : Option ℕ → ℕ → ℕ
counted_to None rows = rows
counted_to (Some height) rows = min height rows

-- skipped rows clear the seed row
abbrev pub skipped : ℕ → Raster → Raster
skipped count r = record r { rows = counted_to r.height (r.rows + count); seed = replicate (bytes_of_width r.width) 0 }

-- the first bits of a byte, and of a row; the others are cleared
abbrev pub first_bits : ℕ → ℕ → ℕ
first_bits count byte = byte / 2 ^ (8 - count) * 2 ^ (8 - count)

-- the first bits of a row, as many as this width; the others are cleared
abbrev pub cleared_past : ℕ → List ℕ → List ℕ
cleared_past width [] = []
cleared_past width (byte ∷ row) = first_bits width byte ∷ cleared_past (width - 8) row

-- the row that data make, within the raster's width
abbrev pub row_sent : Method → List ℕ → Raster → List ℕ
row_sent method bytes r = cleared_past r.width (decoded method r.seed bytes)

-- the row becomes the seed row
abbrev pub with_row : List ℕ → Raster → Raster
with_row row r = record r { rows = counted_to r.height (r.rows + 1); seed = row }

-- rows from the height on are not painted
abbrev pub is_below_height : Option ℕ → ℕ → Bool
is_below_height None rows = true
is_below_height (Some height) rows = nat_lt rows height

-- a raster row, each of its dots a square of dots of the page
abbrev pub row_mark : List ℕ → Raster → Mark
row_mark row r = record {
  covers = λ x y. is_below_height r.height r.rows && raster_dot r.left (r.top + r.rows * r.scale) r.scale r.width row x y;
  ink = Black;
}

-- ---- commands in a raster

-- commands that a raster ignores, whatever their value
abbrev pub is_ignored_in_raster : Operation → Bool
is_ignored_in_raster RasterResolution = true
is_ignored_in_raster RasterWidth = true
is_ignored_in_raster RasterHeight = true
is_ignored_in_raster RasterPresentation = true
is_ignored_in_raster StartRaster = true
is_ignored_in_raster other = false

-- all other commands but those of raster rows end the raster that has begun
abbrev pub ends_raster : Operation → Bool
ends_raster RasterMethod = false
ends_raster SeedRowSource = false
ends_raster RasterOffset = false
ends_raster RasterRow = false
ends_raster other = not (is_ignored_in_raster other)

-- ---- bounds

-- the rows that were sent to the raster that has begun, or skipped in it
abbrev pub raster_rows : Option Raster → ℕ
raster_rows None = 0
raster_rows (Some r) = r.rows
