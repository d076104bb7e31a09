-- Where the pages of two jobs differ.
use Rattle.std.specs.Prelude.{◌≡◌, ◌≢◌, ℕ, ◌+◌, ◌<◌, Bool, List, ◌∷◌, ◌++◌, length}
use Rattle.pcl_base.specs.declared.dpi.Dpi.{Dpi}
use Rattle.pcl_base.specs.Size.{page_width, page_height}
use Rattle.pcl_page.specs.Marks.{is_black}
use Rattle.pcl_page.specs.Situation.{Sheet}
use Rattle.pcl_page.specs.Alike.{AllAlike}
use Rattle.pcl_same.specs.declared.comparison.Difference.{Difference}
use Rattle.pcl_same.specs.declared.comparison.Difference.TheVariants.{Size, Copies, Dot}

-- two pages of this width and height differ in this dot, and in none before it, row by row from the top and from left to right
pub record IsFirstDot (width height : ℕ) (one other : ℕ → ℕ → Bool) (x y : ℕ) : Type 0 where
  pub across : x < width
  pub down : y < height
  pub differs : one x y ≢ other x y
  pub above : (px py : ℕ) → px < width → py < y → one px py ≡ other px py
  pub left : (px : ℕ) → px < x → one px y ≡ other px y

-- two pages differ so: in size; else in copies; else in a dot
abbrev pub DifferBy : Dpi → Sheet → Sheet → Difference → Type 0
DifferBy dpi one other (Size first second) = (one.size ≡ first) × (other.size ≡ second) × (first ≢ second)
DifferBy dpi one other (Copies first second) =
    (one.size ≡ other.size) × (one.copies ≡ first) × (other.copies ≡ second) × (first ≢ second)
DifferBy dpi one other (Dot x y) =
    (one.size ≡ other.size) × (one.copies ≡ other.copies)
    × IsFirstDot (page_width one.size dpi) (page_height one.size dpi) (is_black one.marks) (is_black other.marks) x y

-- the pages of this number, counted from 1, differ so, and those before them are alike
pub record DifferFirst (dpi : Dpi) (pages others : List Sheet) (number : ℕ) (difference : Difference) : Type 0 where
  pub pages_before : List Sheet
  pub page : Sheet
  pub pages_after : List Sheet
  pub pages_are : pages ≡ pages_before ++ page ∷ pages_after
  pub others_before : List Sheet
  pub other : Sheet
  pub others_after : List Sheet
  pub others_are : others ≡ others_before ++ other ∷ others_after
  pub alike_before : AllAlike dpi pages_before others_before
  pub counted : number ≡ length pages_before + 1
  pub differ : DifferBy dpi page other difference
