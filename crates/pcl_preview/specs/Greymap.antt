-- Raw PGM images of pages: a pixel for each square of dots.
use Rattle.std.specs.Prelude.{ℕ, zero, suc, ◌+◌, ◌-◌, ◌*◌, ◌/◌, if◌then◌else◌, List, [], ◌∷◌, ◌++◌, codes, decimal}
use Rattle.pcl_base.specs.declared.dpi.Dpi.{Dpi}
use Rattle.pcl_base.specs.declared.size.Size.{Size}
use Rattle.pcl_base.specs.Size.{page_width, page_height}
use Rattle.pcl_bitmap.specs.Bitmap.{Picture, row_of, dot_of_row}
use Rattle.pcl_preview.specs.declared.form.Scale.{Scale}

-- how many of these first dots of a row from dot x on are black; past the row's end there is none
unfoldable pub black_in_row : (row : List ℕ) (x : ℕ) → ℕ → ℕ
black_in_row row x zero = 0
black_in_row row x (suc more) = black_in_row row x more + (if dot_of_row row (x + more) then 1 else 0)

-- how many dots are black of this many rows of a rectangle whose upper left corner is the dot (x, y)
unfoldable pub black_in : (picture : Picture) (x y width : ℕ) → ℕ → ℕ
black_in picture x y width zero = 0
black_in picture x y width (suc more) = black_in picture x y width more + black_in_row (row_of picture (y + more)) x width

-- the mean of this many dots of which some are black, where black is 0 and white 255, to the nearest number, a half upwards
abbrev pub grey : (dots black : ℕ) → ℕ
grey dots black = (255 * (dots - black) + dots / 2) / dots

-- the mean of the square of a column and a row; what the page's right or lower edge cuts off is white
abbrev pub pixel : Picture → (side column row : ℕ) → ℕ
pixel picture side column row = grey (side * side) (black_in picture (column * side) (row * side) side side)

-- this many pixels of a row, from the left
unfoldable pub pixels_of_row : Picture → (side row : ℕ) → ℕ → List ℕ
pixels_of_row picture side row zero = []
pixels_of_row picture side row (suc more) = pixels_of_row picture side row more ++ pixel picture side more row ∷ []

-- the pixels of this many rows, each of this width, from the top
unfoldable pub pixels_of : Picture → (side width : ℕ) → ℕ → List ℕ
pixels_of picture side width zero = []
pixels_of picture side width (suc more) = pixels_of picture side width more ++ pixels_of_row picture side more width

-- how many squares this many dots need, the last of which may be cut
abbrev pub squares_for : (dots side : ℕ) → ℕ
squares_for dots side = (dots + side - 1) / side

-- the form, the width and the height in pixels, and the number of white
abbrev pub greymap_header : (side : ℕ) → Size → Dpi → List ℕ
greymap_header side size dpi =
    codes "P5\n" ++ decimal (squares_for (page_width size dpi) side) ++ codes " " ++ decimal (squares_for (page_height size dpi) side)
    ++ codes "\n255\n"

-- the header, and the pixels, row after row, a byte each
abbrev pub greymap_of : Scale → Picture → List ℕ
greymap_of scale picture =
    greymap_header scale.side picture.size picture.dpi
    ++ pixels_of picture scale.side (squares_for (page_width picture.size picture.dpi) scale.side)
    (squares_for (page_height picture.size picture.dpi) scale.side)
