-- Pictures.
use Rattle.std.proofs.Common.{◌≡◌, ℕ, ◌*◌, ◌^◌, ◌<◌, ◌≤◌, false, List, length, replicate, sym, ap, ◌∙◌, lit<, arith}
use Rattle.pcl_bitmap.proofs.Names.{length-replicate, All-replicate, mul-le, Dpi, Size, page_width, page_height, page_row_bytes, width_small, height_small, Picture, IsPicture, dot, blank_picture}
use Rattle.pcl_bitmap.specs.Bitmap.{blank_bytes}
use Rattle.pcl_bitmap.proofs.Pages.{same_pages, dot_of_zeros}

-- a picture by its parts
abbrev pub picture_of : Size → Dpi → List ℕ → Picture
picture_of size dpi bytes = record { size = size; dpi = dpi; bytes = bytes }

-- pictures of one size and resolution with the same dots are the same
pub same_dots : (p q : Picture) → IsPicture p → IsPicture q → p.size ≡ q.size → p.dpi ≡ q.dpi
    → ((x y : ℕ) → x < page_width p.size p.dpi → y < page_height p.size p.dpi → dot p x y ≡ dot q x y) → p ≡ q
same_dots p q is_p is_q s d same =
    let turned : q ≡ picture_of p.size p.dpi q.bytes = rw (s, d) in
    let is_turned : IsPicture (picture_of p.size p.dpi q.bytes) = rw turned at is_q in
    let same_turned = λ (x : ℕ) (y : ℕ) (in_row : x < page_width p.size p.dpi) (on_page : y < page_height p.size p.dpi).
    same x y in_row on_page ∙ ap (λ (t : Picture). dot t x y) turned in
    let bytes : p.bytes ≡ q.bytes =
    same_pages (page_row_bytes p.size p.dpi) (page_width p.size p.dpi) (page_height p.size p.dpi) p.bytes q.bytes
    is_p.whole is_turned.whole is_p.in_bytes is_turned.in_bytes is_p.clear_pads is_turned.clear_pads same_turned in
    ap (λ (t : List ℕ). picture_of p.size p.dpi t) bytes ∙ sym turned

-- eight dots to a byte are room for the width
pub wide_rows : (size : Size) (dpi : Dpi) → page_width size dpi ≤ 8 * page_row_bytes size dpi
wide_rows size dpi = omega arith

pub page_bytes_limit : (size : Size) (dpi : Dpi) → page_height size dpi * page_row_bytes size dpi < 2 ^ 32
page_bytes_limit size dpi =
    let rows = mul-le (page_height size dpi) (page_row_bytes size dpi) 8400 600 (height_small size dpi) in
    omega (arith, rows (omega (arith, width_small size dpi)))

-- the bytes of the first n rows of a page, r bytes each, are bytes of it, and a row has room for the page's width
pub record HasRoom (width n r : ℕ) (bytes : List ℕ) : Type 0 where
  pub wide : width ≤ 8 * r
  pub high : n * r ≤ length bytes
  pub small : length bytes < 2 ^ 32

-- bytes that were lent of a picture have this room
pub lent_room : (size : Size) (dpi : Dpi) {bytes lent : List ℕ} {r : ℕ}
    → IsPicture (picture_of size dpi bytes) → lent ≡ bytes → (n : ℕ) → n ≤ page_height size dpi → r ≡ page_row_bytes size dpi
    → HasRoom (page_width size dpi) n r lent
lent_room size dpi {bytes} {lent} {r} picture e_lent n on_page e_r =
    let whole : length lent ≡ page_height size dpi * page_row_bytes size dpi = ap (λ (t : List ℕ). length t) e_lent ∙ picture.whole in
    record {
      wide = omega (arith, wide_rows size dpi);
      high = omega (arith, mul-le n r (page_height size dpi) (page_row_bytes size dpi) on_page (omega arith));
      small = omega (arith, page_bytes_limit size dpi);
    }

-- a white page
pub blank_dots : (size : Size) (dpi : Dpi) (x y : ℕ) → dot (blank_picture size dpi) x y ≡ false
unfolding blank_bytes
blank_dots size dpi x y = dot_of_zeros (page_height size dpi * page_row_bytes size dpi) (page_row_bytes size dpi) x y

-- a page of zeros is the white page
pub blank_from_zeros : (size : Size) (dpi : Dpi) (bs : List ℕ) (h r : ℕ)
    → h ≡ page_height size dpi → r ≡ page_row_bytes size dpi → bs ≡ replicate (h * r) 0 → picture_of size dpi bs ≡ blank_picture size dpi
unfolding blank_bytes
blank_from_zeros size dpi bs h r e_h e_r e = rw (e, e_h, e_r)

pub blank_is_picture : (size : Size) (dpi : Dpi) → IsPicture (blank_picture size dpi)
unfolding blank_bytes
blank_is_picture size dpi = record {
  whole = length-replicate (page_height size dpi * page_row_bytes size dpi) 0;
  in_bytes = All-replicate (λ n. n < 256) (page_height size dpi * page_row_bytes size dpi) 0 (lit< tt);
  clear_pads = λ x y _. blank_dots size dpi x y;
}
