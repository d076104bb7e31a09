-- Sets of dots, as tests on a dot's place.
use Rattle.std.specs.Prelude.{ℕ, ℤ, pos, negsuc, suc, ◌+◌, ◌-◌, ◌*◌, ◌/◌, ◌==◌, nat_lt, nat_le, Bool, true, false, ◌&&◌, if◌then◌else◌, Option, Some, None, List, drop}
use Rattle.pcl_bitmap.specs.declared.ink.Ink.{Ink}
use Rattle.pcl_bitmap.specs.declared.ink.Ink.TheVariants.{Black, White}
use Rattle.pcl_bitmap.specs.Bitmap.{dot_of_row}

-- whether dots of this ink are black
abbrev pub is_black_ink : Ink → Bool
is_black_ink Black = true
is_black_ink White = false

-- the dots that a row of raster data inks at (x0, y0): its first `width` bits are raster dots, each a
-- square of `scale` dots
abbrev pub raster_dot : (x0 y0 scale width : ℕ) (row : List ℕ) → ℕ → ℕ → Bool
raster_dot x0 y0 scale width row x y =
    nat_le x0 x && nat_le y0 y && ((y - y0) / scale == 0)
    && nat_lt ((x - x0) / scale) width && dot_of_row row ((x - x0) / scale)

-- the dots of a rectangle whose upper left corner is the dot (x0, y0)
abbrev pub rectangle_dot : (x0 y0 w h : ℕ) → ℕ → ℕ → Bool
rectangle_dot x0 y0 w h x y = nat_le x0 x && nat_lt x (x0 + w) && nat_le y0 y && nat_lt y (y0 + h)

-- how many dots the dot p lies past an edge, which may be off the page; none for a dot before it
abbrev pub dots_past : ℤ → ℕ → Option ℕ
dots_past (pos edge) p = if nat_le edge p then Some (p - edge) else None
dots_past (negsuc before) p = Some (p + suc before)

-- whether a pattern of `width` by `height` bits, its rows of whole bytes, has a bit set at the dot (x, y) of
-- its own, where each bit is a square of `scale` dots
abbrev pub pattern_bit : (scale width height : ℕ) (rows : List ℕ) → Option ℕ → Option ℕ → Bool
pattern_bit scale width height rows (Some x) (Some y) =
    nat_lt (x / scale) width && nat_lt (y / scale) height && dot_of_row (drop (y / scale * ((width + 7) / 8)) rows) (x / scale)
pattern_bit scale width height rows _ _ = false

-- the dots that a pattern inks whose upper left bit is at the dot (x0, y0), on the page or off it
abbrev pub pattern_dot : (x0 y0 : ℤ) (scale width height : ℕ) (rows : List ℕ) → ℕ → ℕ → Bool
pattern_dot x0 y0 scale width height rows x y = pattern_bit scale width height rows (dots_past x0 x) (dots_past y0 y)

-- bit k of a run that holds the bits of a row from bit `from` on, up to bit `end`
abbrev pub run_dot : (from end : ℕ) (row : List ℕ) → ℕ → Bool
run_dot from end row k = nat_le from k && nat_lt k end && dot_of_row row (k - from)

-- bit k is in a run of bits from bit `from` on, up to bit `end`
abbrev pub in_run : (from end : ℕ) → ℕ → Bool
in_run from end k = nat_le from k && nat_lt k end
