-- A page text while it is read.
use Rattle.std.specs.Prelude.{◌≡◌, ℕ, ◌+◌, ◌-◌, ◌<◌, ◌≤◌, ◌↔◌, Bool, true, false, IsTrue, List, ◌∷◌, ◌++◌, length, take, drop, replicate, min, codes, decimal, Option, Some, None}
use Rattle.pcl_base.specs.Limits.{copies_limit, data_limit}
use Rattle.std.specs.Borrow.{Bor}
use Rattle.std.specs.List.{flat_map, AllByRecursion}
use Rattle.pcl_base.specs.declared.dpi.Dpi.{Dpi}
use Rattle.pcl_base.specs.declared.method.Method.{Method}
use Rattle.pcl_base.specs.declared.method.Method.TheVariants.{Plain}
use Rattle.pcl_base.specs.declared.size.Size.{Size}
use Rattle.pcl_base.specs.Dpi.{dots_per_inch}
use Rattle.pcl_base.specs.Size.{page_width, page_height, page_row_bytes}
use Rattle.pcl_bitmap.specs.Bitmap.{Picture}
use Rattle.pcl_base.specs.Digits.{is_digit, number_of, AreDigits}
use Rattle.pcl_rows.specs.Rows.{IsRowData}
use Rattle.pcl_output.specs.Tokens.{Token, token_bytes, PrintsRows, start_bytes, end_bytes}
use Rattle.pcl_output.specs.PageText.{IsRowOf, bitmap_rows}
use Rattle.pcl_check.specs.declared.reading.body.Place.{Place}
use Rattle.pcl_check.specs.declared.reading.parameter.Parameter.{Parameter}
use Rattle.pcl_check.specs.declared.reading.start.Start.{Start}

-- ---- numbers

-- digits, as many as there are, the byte after them, and what stands after that
pub record IsParameter (text : List ℕ) (found : Parameter) : Type 0 where
  pub are_digits : AreDigits found.digits.now
  pub no_digit : is_digit found.letter ≡ false
  pub spelled : text ≡ found.digits.now ++ found.letter ∷ found.rest.now
  pub number_is : found.number ≡ min (number_of found.digits.now) 65536

-- this many bytes and those after them, where there are this many and no row has more
abbrev pub IsSplit : ℕ → List ℕ → Option (Bor (List ℕ) × Bor (List ℕ)) → Type 0
IsSplit number bytes None = number ≤ data_limit → length bytes < number
IsSplit number bytes (Some parts) = (number ≤ data_limit) × (length parts.0.now ≡ number) × (bytes ≡ parts.0.now ++ parts.1.now)

-- ---- the start of a text

-- what stands after the letter of the size
abbrev pub raster_start : Size → Dpi → List ℕ
raster_start size dpi = codes "0E" ++ 27 ∷ codes "*p0x0Y" ++ 27 ∷ codes "*t" ++ decimal (dots_per_inch dpi) ++ codes "R"
    ++ 27 ∷ codes "*r" ++ decimal (page_width size dpi) ++ codes "s0A"

-- the start of a text and what stands after it, or none where it doesn't begin as a text does
abbrev pub IsStart : Dpi → List ℕ → Option Start → Type 0
IsStart dpi text None = (copies : ℕ) (size : Size) (rest : List ℕ)
    → 0 < copies → copies ≤ copies_limit → text ≡ start_bytes dpi copies size ++ rest → ⊥
IsStart dpi text (Some start) = (0 < start.copies) × (start.copies ≤ copies_limit)
    × (text ≡ start_bytes dpi start.copies start.size ++ start.rest.now)

-- ---- what is left of a text

-- whether a sequence is open, the method, the row above, how many rows come, and the bytes
pub record LeftOver : Type 0 where
  pub inside : Bool
  pub method : Method
  pub above : List ℕ
  pub rows : ℕ
  pub text : List ℕ

-- some tokens and the end of a text print these rows of a size, as many as come
pub record RestPrints (size : Size) (dpi : Dpi) (left : LeftOver) (rows : List (List ℕ)) : Type 0 where
  pub count : length rows ≡ left.rows
  pub rows_are : AllByRecursion (IsRowOf size dpi) rows
  pub tokens : List Token
  pub spelled : left.text ≡ flat_map token_bytes tokens ++ end_bytes
  pub prints : PrintsRows left.inside left.method left.above tokens rows

-- what is left before a token and after it: the first prints given rows and then those that the second prints
pub record GivesRows (size : Size) (dpi : Dpi) (old : LeftOver) (given : List (List ℕ)) (new : LeftOver) : Type 0 where
  pub splits : (rows : List (List ℕ)) → RestPrints size dpi old rows
      → (rest : List (List ℕ)) × (rows ≡ given ++ rest) × RestPrints size dpi new rest
  pub joins : (rest : List (List ℕ)) → RestPrints size dpi new rest → RestPrints size dpi old (given ++ rest)

-- what is left at a place
abbrev pub left_at : Size → Dpi → Place → List ℕ → LeftOver
left_at size dpi place above = record {
  inside = place.inside;
  method = place.method;
  above = above;
  rows = page_height size dpi - place.row;
  text = place.text.now;
}

-- some rows are those of a page from row y on
abbrev pub AreRowsAt : Picture → ℕ → List (List ℕ) → Type 0
AreRowsAt picture y rows = rows ≡ take (length rows) (drop y (bitmap_rows picture))

-- tokens lead from one place to another, and say given rows, which are compared with the page's
pub record Advances (picture : Picture) (size : Size) (place : Place) (above : List ℕ) (next : Place) (below : List ℕ) : Type 0 where
  pub given : List (List ℕ)
  pub becomes : GivesRows size picture.dpi (left_at size picture.dpi place above) given (left_at size picture.dpi next below)
  pub row_is : next.row ≡ place.row + length given
  pub within : next.row ≤ page_height size picture.dpi
  pub same : IsTrue next.is_same ↔ (IsTrue place.is_same × AreRowsAt picture place.row given)

-- a token is read, or there is none that a text may go on with
abbrev pub IsStep : Picture → Size → Place → List ℕ → Option Place → List ℕ → Type 0
IsStep picture size place above None below =
    (rows : List (List ℕ)) → RestPrints size picture.dpi (left_at size picture.dpi place above) rows → ⊥
IsStep picture size place above (Some next) below =
    Advances picture size place above next below × (length next.text.now < length place.text.now)

-- ---- rows

-- data is painted below a row: it is whole and says a row of the size, or isn't or doesn't
abbrev pub IsPaintedRow : Dpi → Size → Method → List ℕ → List ℕ → Bool → List ℕ → Type 0
IsPaintedRow dpi size method above bytes true row = IsRowOf size dpi row × IsRowData method above row bytes
IsPaintedRow dpi size method above bytes false row =
    (other : List ℕ) → IsRowOf size dpi other → IsRowData method above other bytes → ⊥

-- ---- bodies

-- a body and the end of its text, from the first row on
abbrev pub body_of : Size → Dpi → List ℕ → LeftOver
body_of size dpi text = record {
  inside = false;
  method = Plain;
  above = replicate (page_row_bytes size dpi) 0;
  rows = page_height size dpi;
  text = text;
}

-- the only rows that a body prints, and whether they are those of a page that may be its own
pub record IsOnlyPrinted (picture : Picture) (size : Size) (text : List ℕ) (can_match is_same : Bool) : Type 0 where
  pub rows : List (List ℕ)
  pub printed : RestPrints size picture.dpi (body_of size picture.dpi text) rows
  pub only : (other : List (List ℕ)) → RestPrints size picture.dpi (body_of size picture.dpi text) other → other ≡ rows
  pub same : IsTrue is_same ↔ (IsTrue can_match × AreRowsAt picture 0 rows)

abbrev pub IsBodyVerdict : Picture → Size → List ℕ → Bool → Option Bool → Type 0
IsBodyVerdict picture size text can_match None =
    (rows : List (List ℕ)) → RestPrints size picture.dpi (body_of size picture.dpi text) rows → ⊥
IsBodyVerdict picture size text can_match (Some is_same) = IsOnlyPrinted picture size text can_match is_same
