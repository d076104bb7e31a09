-- The dots of a page: one bit each, rows of whole bytes, the left dot in the highest bit, 1 black.
use Rattle.std.specs.Prelude.{◌≡◌, ℕ, ◌-◌, ◌*◌, ◌/◌, ◌%◌, ◌^◌, ◌≤◌, ◌<◌, ◌==◌, Bool, false, List, length, take, drop, replicate, slice_index, All}
use Rattle.pcl_base.specs.declared.dpi.Dpi.{Dpi}
use Rattle.pcl_base.specs.declared.size.Size.{Size}
use Rattle.pcl_base.specs.Size.{page_width, page_height, page_row_bytes}

-- what contracts see of a bitmap: the bytes of its rows stand one row after the other
pub record Picture : Type 0 where
  pub size : Size
  pub dpi : Dpi
  pub bytes : List ℕ

-- the bytes of row y
abbrev pub row_of : Picture → ℕ → List ℕ
row_of p y = take (page_row_bytes p.size p.dpi) (drop (y * page_row_bytes p.size p.dpi) p.bytes)

-- the bit of a byte that stands k places from its left end, k from 0 to 7
abbrev pub bit_of_byte : ℕ → ℕ → Bool
bit_of_byte byte k = (byte / 2 ^ (7 - k)) % 2 == 1

-- dot x of a row of bytes: white past its end
abbrev pub dot_of_row : List ℕ → ℕ → Bool
dot_of_row row x = bit_of_byte (slice_index row (x / 8)) (x % 8)

-- whether the dot at (x, y) is black
abbrev pub dot : Picture → ℕ → ℕ → Bool
dot p x y = dot_of_row (row_of p y) x

-- rows of whole bytes for the whole page, with the bits past the page's width clear
pub record IsPicture (p : Picture) : Type 0 where
  pub whole : length p.bytes ≡ page_height p.size p.dpi * page_row_bytes p.size p.dpi
  pub in_bytes : All (λ byte. byte < 256) p.bytes
  pub clear_pads : (x y : ℕ) → page_width p.size p.dpi ≤ x → dot p x y ≡ false

-- the bytes of a white page
unfoldable pub blank_bytes : Size → Dpi → List ℕ
blank_bytes size dpi = replicate (page_height size dpi * page_row_bytes size dpi) 0

-- a white page
abbrev pub blank_picture : Size → Dpi → Picture
blank_picture size dpi = record { size = size; dpi = dpi; bytes = blank_bytes size dpi }
