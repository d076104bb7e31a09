-- Rows of a page beside rows of a text.
use Rattle.std.proofs.Common.{◌≡◌, ℕ, ◌<◌, ◌≤◌, [], ◌∷◌, take, drop, replicate, ap, arith}
use Rattle.pcl_check.proofs.Names.{All, get_or-replicate, length-replicate, page_height, page_row_bytes, Picture, row_of, bitmap_rows, rows_at, no_rows}

-- row y of a page is the first of those from it on
pub first_row : (picture : Picture) {y : ℕ} → y < page_height picture.size picture.dpi
    → take 1 (drop y (bitmap_rows picture)) ≡ row_of picture y ∷ []
first_row picture {y} lt = ap (take 1) (rows_at (page_row_bytes picture.size picture.dpi) picture.bytes lt)

-- below the last row there is none
pub past_rows : (picture : Picture) {y : ℕ} → page_height picture.size picture.dpi ≤ y → take 1 (drop y (bitmap_rows picture)) ≡ []
past_rows picture {y} le =
    ap (take 1) (no_rows y (page_height picture.size picture.dpi) (page_row_bytes picture.size picture.dpi) picture.bytes le)

-- ---- white rows

pub zeros_all : (n : ℕ) → All {X = ℕ} (λ byte. byte ≡ 0) (replicate n 0)
zeros_all n = λ k d lt. get_or-replicate n k 0 d (omega (arith, length-replicate {A = ℕ} n 0))
