-- Rectangles of dots that take ink, row by row, and the pages that they are on.
use Rattle.std.proofs.Common.{◌≡◌, ℕ, ◌+◌, ◌-◌, ◌*◌, ◌<◌, ◌≤◌, Bool, ◌||◌, if◌then◌else◌, min, List, length, get_or, drop, All, arith}
use Rattle.pcl_bitmap.proofs.Names.{nat_tests, All-from_get_or, Dpi, Size, page_width, page_height, page_row_bytes, IsPicture, dot_of_row, dot, in_run, run_dot, rectangle_dot}
use Rattle.pcl_bitmap.proofs.Pages.{rows_apart, dot_in_page, dot_past_row}
use Rattle.pcl_bitmap.proofs.Pictures.{picture_of, wide_rows}

-- rows of r bytes before and after each dot of a rectangle that is above row `row` took the ink for its place
pub record AreInked (r : ℕ) (old new : List ℕ) (x y w h row : ℕ) (ink : ℕ → ℕ → Bool → Bool) : Type 0 where
  pub dots : (px py : ℕ) → px < 8 * r → let place = 8 * (py * r) + px in
      dot_of_row new place ≡ (if rectangle_dot x y w (row - y) px py then ink px py (dot_of_row old place) else dot_of_row old place)
  pub in_bytes : All (λ byte. byte < 256) new
  pub room : row < y + h → row * r + r ≤ length new

-- no row yet
pub none_inked : {r : ℕ} {page : List ℕ} {x y w h : ℕ} {ink : ℕ → ℕ → Bool → Bool}
    → (y + h) * r ≤ length page → ((i : ℕ) → get_or page i 0 < 256) → AreInked r page page x y w h y ink
none_inked {r} {page} {y = y} {h = h} high bytes = record {
  dots = λ px py within. grind (arith, nat_tests);
  in_bytes = All-from_get_or (λ byte. byte < 256) page 0 (λ i _. bytes i);
  room = λ some. omega (arith, rows_apart y (y + h) r some);
}

-- one row more, where the run of its dots took the ink
pub row_inked : {r x y w h row : ℕ} {old now : List ℕ} (new : List ℕ) {ink : ℕ → ℕ → Bool → Bool} → AreInked r old now x y w h row ink
    → y ≤ row → x + w ≤ 8 * r → (y + h) * r ≤ length new → All (λ byte. byte < 256) new
    → ((px py : ℕ) → px < 8 * r → let from = 8 * (row * r) + x in let place = 8 * (py * r) + px in
    dot_of_row new place ≡ (if in_run from (from + w) place then ink px py (dot_of_row now place) else dot_of_row now place))
    → AreInked r old new x y w h (row + 1) ink
row_inked {r} {x} {y} {w} {h} {row} {old} {now} new {ink} above since wide high bytes painted = record {
  dots = λ px py within.
      grind (arith, nat_tests, rows_apart py row r, rows_apart row py r, above.dots px py within, painted px py within);
  in_bytes = bytes;
  room = λ some. omega (arith, rows_apart (row + 1) (y + h) r some);
}

-- a run of bits that is added to row i of a page, and whose bits there are p
pub run_or : (source : List ℕ) (r x w i px py : ℕ) (p d : Bool)
    → x + w ≤ 8 * r → px < 8 * r → (py ≡ i → px - x < w → dot_of_row source (px - x) ≡ p)
    → let from = 8 * (i * r) + x in let k = 8 * (py * r) + px in
    (run_dot from (from + w) source k || d) ≡ (if in_run from (from + w) k then p || d else d)
run_or source r x w i px py p d wide within bits = grind (arith, nat_tests, rows_apart py i r, rows_apart i py r)

-- a rectangle that is cut at the page's edges has the same dots on the page
pub clipped : (width height x y w h wide high px py : ℕ)
    → x < width → y < height → w ≡ min wide (width - x) → h ≡ min high (height - y) → px < width → py < height
    → rectangle_dot x y w h px py ≡ rectangle_dot x y wide high px py
clipped width height x y w h wide high px py start top e_w e_h within on_page = grind (arith, nat_tests)

-- the bytes of a page before and after each of its dots became what `after` makes of it
pub record IsDrawn (size : Size) (dpi : Dpi) (old new : List ℕ) (after : ℕ → ℕ → Bool → Bool) : Type 0 where
  pub picture : IsPicture (picture_of size dpi new)
  pub dots : (px py : ℕ) → px < page_width size dpi → py < page_height size dpi
      → dot (picture_of size dpi new) px py ≡ after px py (dot (picture_of size dpi old) px py)

-- a page whose bytes were lent, where each dot of a rectangle took the ink for its place
pub drawn :
    {size : Size} {dpi : Dpi} {old new lent page : List ℕ} (x y w h r : ℕ) (ink after : ℕ → ℕ → Bool → Bool)
    → IsPicture (picture_of size dpi old)
    → lent ≡ old → new ≡ page → length page ≡ length lent → All (λ n. n < 256) page → x + w ≤ page_width size dpi
    → r ≡ page_row_bytes size dpi → ((px py : ℕ) → px < 8 * r → let place = 8 * (py * r) + px in
    dot_of_row page place ≡ (if rectangle_dot x y w h px py then ink px py (dot_of_row lent place) else dot_of_row lent place))
    → ((px py : ℕ) (before : Bool) → px < page_width size dpi → py < page_height size dpi
    → (if rectangle_dot x y w h px py then ink px py before else before) ≡ after px py before) → IsDrawn size dpi old new after
drawn {size} {dpi} {old} {new} {lent} {page} x y w h r ink after is_picture e_old e_new len bytes on_page e_r painted seen =
    let n : ℕ = page_row_bytes size dpi in
    let bits = rw (e_old, e_r) at painted in
    rw e_new (record {
      picture = record {
        whole = rw (len, e_old) is_picture.whole;
        in_bytes = bytes;
        clear_pads = λ px py off.
            let pads = is_picture.clear_pads px py off in
            let past = dot_past_row (drop (py * n) page) n {x = px} in
            grind (arith, nat_tests, pads, past, bits px py, dot_in_page page n {x = px} py, dot_in_page old n {x = px} py);
      };
      dots = λ px py in_row on_page.
          let room : px < 8 * page_row_bytes size dpi = omega (arith, wide_rows size dpi) in
          rw (dot_in_page page n py room, bits px py room, dot_in_page old n py room) (seen px py _ in_row on_page);
    })
