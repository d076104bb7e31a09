-- Areas whose dots have one ink.
use Rattle.std.proofs.Common.{◌≡◌, ℕ, ◌-◌, ◌<◌, ◌≤◌, min, Bool, ◌||◌, if◌then◌else◌, List, ap, inl, inr, ◌⊎◌, arith}
use Rattle.pcl_bitmap.proofs.Names.{nat_tests, Dpi, Size, page_width, page_height, Picture, dot, is_black_ink, rectangle_dot, HasInk, Filled, Ink, Black}
use Rattle.pcl_bitmap.proofs.Pictures.{picture_of}
use Rattle.pcl_bitmap.proofs.Inked.{IsDrawn, clipped}

-- an area without dots
pub nothing_inked : (p : Picture) (filled : Filled) → filled.area.width ≡ 0 → HasInk p filled
nothing_inked p filled none = λ px py in_row on_page inside. absurd (grind (arith, nat_tests))

-- after dots were painted black
pub black_stays :
    {size : Size} {dpi : Dpi} {old new : List ℕ} {before after : Filled} (mark : ℕ → ℕ → Bool) → HasInk (picture_of size dpi old) before
    → (after.area.width ≡ 0) ⊎ ((before.ink ≡ Black) × (after ≡ before)) → IsDrawn size dpi old new (λ px py dot. mark px py || dot)
    → HasInk (picture_of size dpi new) after
black_stays {size} {dpi} {old} {new} {before} {after} mark inked kept drawn =
    elim kept [
      | inl none ↦ nothing_inked (picture_of size dpi new) after none
      | inr same ↦ rw same.1 (λ px py in_row on_page inside.
          grind (arith, nat_tests, ap is_black_ink same.0, drawn.dots px py in_row on_page, inked px py in_row on_page inside))
    ]

-- a rectangle whose dots have the ink
pub has_ink : (size : Size) (dpi : Dpi) (bytes : List ℕ) (filled : Filled) (x y w h wide high : ℕ) (ink : Ink)
    → HasInk (picture_of size dpi bytes) filled → (filled.ink ≡ ink) × (filled.area.x ≤ x) × (filled.area.y ≤ y)
    × (w ≤ filled.area.width - (x - filled.area.x)) × (h ≤ filled.area.height - (y - filled.area.y))
    → x < page_width size dpi → y < page_height size dpi → w ≡ min wide (page_width size dpi - x) → h ≡ min high (page_height size dpi - y)
    → (px py : ℕ) → px < page_width size dpi → py < page_height size dpi → dot (picture_of size dpi bytes) px py
    ≡ (if rectangle_dot x y wide high px py then is_black_ink ink else dot (picture_of size dpi bytes) px py)
has_ink size dpi bytes filled x y w h wide high ink inked within start top e_w e_h px py in_row on_page =
    rw (← clipped (page_width size dpi) (page_height size dpi) x y w h wide high px py start top e_w e_h in_row on_page)
    (grind (arith, nat_tests, within, ap is_black_ink within.0, inked px py in_row on_page))
