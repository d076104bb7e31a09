-- Marks on a page: sets of dots, each with its ink.
use Rattle.std.specs.Prelude.{ℕ, ◌/◌, Bool, true, false, if◌then◌else◌, List, [], ◌∷◌}
use Rattle.std.specs.Int.{div_ceil}
use Rattle.pcl_base.specs.declared.dpi.Dpi.{Dpi}
use Rattle.pcl_base.specs.Dpi.{units_per_dot}
use Rattle.pcl_bitmap.specs.declared.ink.Ink.{Ink}
use Rattle.pcl_bitmap.specs.Dots.{is_black_ink}

-- a set of dots and their ink: what a raster row, a rectangle or a character covers
pub record Mark : Type 0 where
  pub covers : ℕ → ℕ → Bool
  pub ink : Ink

-- whether a dot is black: the newest mark that covers it gives its ink; where there is none it is white
abbrev pub is_black : List Mark → ℕ → ℕ → Bool
is_black [] x y = false
is_black (mark ∷ older) x y = if mark.covers x y then is_black_ink mark.ink else is_black older x y

-- whether something was performed on the page that marks it
abbrev pub are_marked : List Mark → Bool
are_marked [] = false
are_marked (mark ∷ older) = true

-- ---- dots

-- the dot of a position
abbrev pub dot_at : Dpi → ℕ → ℕ
dot_at dpi units = units / units_per_dot dpi

-- the dots of a length, the last perhaps partly covered
abbrev pub dots_of : Dpi → ℕ → ℕ
dots_of dpi units = div_ceil units (units_per_dot dpi)
