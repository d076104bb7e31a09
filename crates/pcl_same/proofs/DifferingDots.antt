-- Rows of bits at which rows differ, painted one by one.
use Rattle.std.proofs.Common.{◌≡◌, ℕ, ◌+◌, ◌-◌, ◌/◌, ◌%◌, ◌<◌, false, ◌&&◌, ◌||◌, nat_eq, List, length, ◌∙◌, arith, inl, inr, refl}
use Rattle.pcl_same.proofs.Names.{slice_index, nat_lt, bit_at, bit_xor, nat_tests, get_or_past, bit_at_xor, bit_at-lt, page_width, page_height, Picture, bit_of_byte, dot_of_row, dot, raster_dot, differ, lt-ltb, cases_lt, le-ltb, or-false}

-- ---- the bits of a row

parity : (u v : ℕ) → u < 2 → v < 2 → nat_eq ((u + v) % 2) 1 ≡ differ (nat_eq u 1) (nat_eq v 1)
parity u v p q = grind (arith, nat_tests)

xor_bit : (a b k : ℕ) → bit_of_byte (bit_xor a b) k ≡ differ (bit_of_byte a k) (bit_of_byte b k)
xor_bit a b k = rw (bit_at_xor a b (7 - k)) (parity (bit_at a (7 - k)) (bit_at b (7 - k)) (bit_at-lt a (7 - k)) (bit_at-lt b (7 - k)))

-- bytes past the ends of rows are 0
xor_byte : (one other bits : List ℕ) → length other ≡ length one → length bits ≡ length one
    → ((k : ℕ) → k < length one → slice_index bits k ≡ bit_xor (slice_index one k) (slice_index other k))
    → (k : ℕ) → slice_index bits k ≡ bit_xor (slice_index one k) (slice_index other k)
xor_byte one other bits p q h k = grind (arith, h k, get_or_past bits k 0, get_or_past one k 0, get_or_past other k 0)

pub row_of_bits : (one other bits : List ℕ) → length other ≡ length one → length bits ≡ length one
    → ((k : ℕ) → k < length one → slice_index bits k ≡ bit_xor (slice_index one k) (slice_index other k))
    → (x : ℕ) → dot_of_row bits x ≡ differ (dot_of_row one x) (dot_of_row other x)
row_of_bits one other bits p q h x =
    rw (xor_byte one other bits p q h (x / 8)) (xor_bit (slice_index one (x / 8)) (slice_index other (x / 8)) (x % 8))

-- ---- the rows of an image

-- the rows above row y are drawn, and all others are white
pub record DrawnAbove (one other image : Picture) (y : ℕ) : Type 0 where
  pub size : image.size ≡ one.size
  pub resolution : image.dpi ≡ one.dpi
  pub dots : (px py : ℕ) → px < page_width one.size one.dpi → py < page_height one.size one.dpi
      → dot image px py ≡ (nat_lt py y && differ (dot one px py) (dot other px py))

-- a row of bits paints its own row, and no other
row_here : (y width px : ℕ) (bits : List ℕ) → px < width → raster_dot 0 y 1 width bits px y ≡ dot_of_row bits px
row_here y width px bits across = grind (arith, nat_tests)

row_below : (y width px py : ℕ) (bits : List ℕ) → py < y → raster_dot 0 y 1 width bits px py ≡ false
row_below y width px py bits less = grind (arith, nat_tests)

row_above : (y width px py : ℕ) (bits : List ℕ) → y < py → raster_dot 0 y 1 width bits px py ≡ false
row_above y width px py bits more = grind (arith, nat_tests)

pub more_drawn : (one other old : Picture) (y : ℕ) {new : Picture} {width : ℕ} (bits : List ℕ) → DrawnAbove one other old y
    → new.size ≡ old.size → new.dpi ≡ old.dpi → width ≡ page_width one.size one.dpi
    → ((x : ℕ) → dot_of_row bits x ≡ differ (dot one x y) (dot other x y))
    → ((px py : ℕ) → px < page_width old.size old.dpi → py < page_height old.size old.dpi
    → dot new px py ≡ (raster_dot 0 y 1 width bits px py || dot old px py)) → DrawnAbove one other new (y + 1)
more_drawn one other old y {new} {width} bits drawn s r w row painted = record {
  size = s ∙ drawn.size;
  resolution = r ∙ drawn.resolution;
  dots = λ px py across down.
      let here = painted px py (rw (drawn.size, drawn.resolution) across) (rw (drawn.size, drawn.resolution) down) in
      let before = drawn.dots px py across down in
      elim (cases_lt py y) [
        | inl above ↦ rw (here, row_below y width px py bits above, before, lt-ltb py y above, lt-ltb py (y + 1) (omega arith)) refl
        | inr at ↦ elim (cases_lt y py) [
          | inl below ↦ rw (here, row_above y width px py bits below, before, le-ltb py y at, le-ltb py (y + 1) (omega arith)) refl
          | inr same ↦
              let is : py ≡ y = omega arith in
              let drawn_row : raster_dot 0 y 1 width bits px py ≡ differ (dot one px py) (dot other px py) =
              rw is (row_here y width px bits (omega (arith, w)) ∙ row px) in
              rw (here, before, le-ltb py y at, or-false, drawn_row, lt-ltb py (y + 1) (omega arith)) refl
        ]
      ];
}
