-- Pages that are the same.
use Rattle.std.specs.Prelude.{◌≡◌, ℕ, ◌<◌, List, [], ◌∷◌}
use Rattle.pcl_base.specs.declared.dpi.Dpi.{Dpi}
use Rattle.pcl_base.specs.Size.{page_width, page_height}
use Rattle.pcl_page.specs.Marks.{is_black}
use Rattle.pcl_page.specs.Situation.{Sheet}

-- two sheets of one size and with as many copies, of the same dots
pub record AreAlike (dpi : Dpi) (one other : Sheet) : Type 0 where
  pub size : one.size ≡ other.size
  pub copies : one.copies ≡ other.copies
  pub dots : (x y : ℕ) → x < page_width one.size dpi → y < page_height one.size dpi → is_black one.marks x y ≡ is_black other.marks x y

-- the same number of sheets, alike one by one
abbrev pub AllAlike : Dpi → List Sheet → List Sheet → Type 0
AllAlike dpi [] [] = Unit {0}
AllAlike dpi [] (other ∷ others) = ⊥
AllAlike dpi (sheet ∷ sheets) [] = ⊥
AllAlike dpi (sheet ∷ sheets) (other ∷ others) = AreAlike dpi sheet other × AllAlike dpi sheets others
