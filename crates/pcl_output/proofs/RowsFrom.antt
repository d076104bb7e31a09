-- Rows cut from the bytes of a bitmap.
use Rattle.std.proofs.Common.{◌≡◌, ℕ, length-take-le, zero, suc, ◌+◌, ◌-◌, ◌*◌, ◌<◌, ◌≤◌, List, [], ◌∷◌, length, take, drop, refl, ap, arith}
use Rattle.pcl_output.proofs.Names.{drop_of_length-le, drop-drop, length-drop, AllByRecursion, page_height, page_row_bytes, Picture, IsPicture, IsRowOf, bitmap_rows, row_at}
use Rattle.pcl_output.specs.PageText.{rows_from}
use Rattle.pcl_output.proofs.Walking.{row_at_first}

pub drop_rows : (k n width : ℕ) (bytes : List ℕ) → drop k (rows_from n width bytes) ≡ rows_from (n - k) width (drop (k * width) bytes)
unfolding rows_from
drop_rows zero n width bytes = grind arith
drop_rows (suc k) zero width bytes = grind arith
drop_rows (suc k) (suc n) width bytes = grind (arith, drop_rows k n width (drop width bytes), drop-drop (k * width) width bytes)

-- the rows from one that is on the page
pub rows_at : {y n : ℕ} (width : ℕ) (bytes : List ℕ) → y < n → drop y (rows_from n width bytes)
    ≡ take width (drop (y * width) bytes) ∷ drop (y + 1) (rows_from n width bytes)
unfolding rows_from
rows_at {y} {n} width bytes lt =
    let one : n - y ≡ suc (n - (y + 1)) = omega arith in
    grind (arith, drop_rows y n width bytes, drop_rows (y + 1) n width bytes, drop-drop width (y * width) bytes)

pub length_rows : (n width : ℕ) (bytes : List ℕ) → length (rows_from n width bytes) ≡ n
unfolding rows_from
length_rows zero width bytes = refl
length_rows (suc n) width bytes = ap suc (length_rows n width (drop width bytes))

pub no_rows : (y n width : ℕ) (bytes : List ℕ) → n ≤ y → drop y (rows_from n width bytes) ≡ []
no_rows y n width bytes le = drop_of_length-le (rows_from n width bytes) (omega (arith, length_rows n width bytes))

pub row_of_bytes : (y n width : ℕ) (bytes : List ℕ) → y < n → row_at (rows_from n width bytes) y ≡ take width (drop (y * width) bytes)
row_of_bytes y n width bytes lt = row_at_first y (rows_from n width bytes) (rows_at width bytes lt)

-- ---- rows of bitmaps

rows_from_are : (n k : ℕ) {picture : Picture} → IsPicture picture → k + n ≡ page_height picture.size picture.dpi
    → AllByRecursion (IsRowOf picture.size picture.dpi)
    (rows_from n (page_row_bytes picture.size picture.dpi) (drop (k * page_row_bytes picture.size picture.dpi) picture.bytes))
unfolding rows_from
rows_from_are zero k is e = tt
rows_from_are (suc n) k {picture} is e =
    let width = page_row_bytes picture.size picture.dpi in
    let bytes = picture.bytes in
    let next : drop width (drop (k * width) bytes) ≡ drop ((k + 1) * width) bytes = grind (arith, drop-drop width (k * width) bytes) in
    let all : length bytes ≡ k * width + (width + n * width) = rw (is.whole, ← e) (grind arith) in
    let room : width ≤ length (drop (k * width) bytes) = omega (arith, length-drop (k * width) bytes, all) in (
      (length-take-le width (drop (k * width) bytes) room, λ x past. is.clear_pads x k past),
      rw next (rows_from_are n (k + 1) is (omega arith)),
    )

-- the rows of a bitmap are rows of its size
pub bitmap_rows_are : {picture : Picture} → IsPicture picture → AllByRecursion (IsRowOf picture.size picture.dpi) (bitmap_rows picture)
bitmap_rows_are {picture} is =
    let none : 0 * page_row_bytes picture.size picture.dpi ≡ 0 = omega arith in
    rw none at (rows_from_are (page_height picture.size picture.dpi) 0 is (omega arith))
