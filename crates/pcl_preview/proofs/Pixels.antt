-- Pixels that were written, and one or a row more.
use Rattle.std.proofs.Common.{◌≡◌, ℕ, ◌+◌, ◌-◌, ◌≤◌, ◌++◌, List, [], ◌∷◌, sym, add-one, append_assoc, append-nil, arith}
use Rattle.pcl_preview.proofs.Names.{Picture, div_below, pixel, squares_for}
use Rattle.pcl_preview.specs.Greymap.{pixels_of_row, pixels_of}

pub no_pixel : (picture : Picture) (side row : ℕ) (before : List ℕ) → before ≡ before ++ pixels_of_row picture side row 0
unfolding pixels_of_row
no_pixel picture side row before = sym (append-nil before)

pub no_row : (picture : Picture) (side width : ℕ) (before : List ℕ) → before ≡ before ++ pixels_of picture side width 0
unfolding pixels_of
no_row picture side width before = sym (append-nil before)

pub few_squares : (dots side : ℕ) → 1 ≤ side → dots ≤ 8400 → squares_for dots side ≤ 8400
few_squares dots side some few =
    let below = div_below (dots + side - 1) side 8401 some (omega (arith, some, few)) in omega (arith, below)

pub pixel_more : (picture : Picture) (side row n : ℕ) (image before : List ℕ) (level : ℕ)
    → image ≡ before ++ pixels_of_row picture side row n
    → level ≡ pixel picture side n row → image ++ level ∷ [] ≡ before ++ pixels_of_row picture side row (n + 1)
unfolding pixels_of_row
pixel_more picture side row n image before level is next =
    rw (add-one n, is, next) (append_assoc before (pixels_of_row picture side row n) (pixel picture side n row ∷ []))

pub pixel_row_more : (picture : Picture) (side width n : ℕ) (image before header : List ℕ)
    → before ≡ header ++ pixels_of picture side width n
    → image ≡ before ++ pixels_of_row picture side n width → image ≡ header ++ pixels_of picture side width (n + 1)
unfolding pixels_of
pixel_row_more picture side width n image before header is next =
    rw (add-one n, next, is) (append_assoc header (pixels_of picture side width n) (pixels_of_row picture side n width))
