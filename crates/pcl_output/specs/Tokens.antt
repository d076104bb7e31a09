-- The output grammar: the tokens of a page text, and the rows that they print.
use Rattle.std.specs.Prelude.{◌≡◌, ℕ, ◌+◌, ◌<◌, ◌≤◌, Bool, true, false, not, List, [], ◌∷◌, ◌++◌, length, take, drop, replicate, codes, decimal}
use Rattle.std.specs.List.{AllByRecursion}
use Rattle.pcl_base.specs.declared.dpi.Dpi.{Dpi}
use Rattle.pcl_base.specs.declared.method.Method.{Method}
use Rattle.pcl_base.specs.declared.size.Size.{Size}
use Rattle.pcl_base.specs.Dpi.{dots_per_inch}
use Rattle.pcl_base.specs.Method.{method_code}
use Rattle.pcl_base.specs.Size.{code_of, page_width}
use Rattle.pcl_base.specs.Digits.{number_of, AreDigits}
use Rattle.pcl_rows.specs.Rows.{IsRowData}

-- ---- tokens

-- A sequence is opened; a method is set, rows are skipped, or a row is sent. A number is kept as it is spelled, and a
-- setting ends its sequence or doesn't; a row always ends it.
pub data Token : Type 0 where
  opening : Token
  method : List ℕ → Method → Bool → Token
  skip : List ℕ → ℕ → Bool → Token
  send : List ℕ → List ℕ → Token

-- a letter is a capital where it ends the sequence
abbrev pub letter : ℕ → Bool → List ℕ
letter capital true = capital ∷ []
letter capital false = (capital + 32) ∷ []

-- the bytes of a token in a page text: 77 is M, 89 is Y, and 87 is W
abbrev pub token_bytes : Token → List ℕ
token_bytes opening = 27 ∷ codes "*b"
token_bytes (method digits next ends) = digits ++ letter 77 ends
token_bytes (skip digits count ends) = digits ++ letter 89 ends
token_bytes (send digits bytes) = digits ++ 87 ∷ bytes

-- decimal digits with any leading zeros; 0 may have none
abbrev pub IsSpelled : List ℕ → ℕ → Type 0
IsSpelled digits number = AreDigits digits × (number_of digits ≡ number)

-- ---- the rows that tokens print

-- a row without a black dot: all of its bytes are 0
abbrev pub IsWhite : List ℕ → Type 0
IsWhite row = AllByRecursion (λ byte. byte ≡ 0) row

-- rows without a black dot
abbrev pub AreWhite : List (List ℕ) → Type 0
AreWhite rows = AllByRecursion IsWhite rows

-- The tokens print these rows, from inside a sequence or from outside, with this method, below this seed row. Rows that
-- are skipped or aren't sent are white. The row above is the seed of each row that is sent.
unfoldable pub PrintsRows : Bool → Method → List ℕ → List Token → List (List ℕ) → Type 0
PrintsRows false current seed [] rows = AreWhite rows
PrintsRows true current seed [] rows = ⊥
PrintsRows false current seed (opening ∷ tokens) rows = PrintsRows true current seed tokens rows
PrintsRows true current seed (opening ∷ tokens) rows = ⊥
PrintsRows false current seed (method digits next ends ∷ tokens) rows = ⊥
PrintsRows true current seed (method digits next ends ∷ tokens) rows = IsSpelled digits (method_code next)
    × PrintsRows (not ends) next seed tokens rows
PrintsRows false current seed (skip digits count ends ∷ tokens) rows = ⊥
PrintsRows true current seed (skip digits count ends ∷ tokens) rows =
    IsSpelled digits count × (0 < count) × (count ≤ length rows) × AreWhite (take count rows)
    × PrintsRows (not ends) current (replicate (length seed) 0) tokens (drop count rows)
PrintsRows false current seed (send digits bytes ∷ tokens) rows = ⊥
PrintsRows true current seed (send digits bytes ∷ tokens) [] = ⊥
PrintsRows true current seed (send digits bytes ∷ tokens) (first ∷ rows) =
    IsSpelled digits (length bytes) × IsRowData current seed first bytes × PrintsRows false current first tokens rows

-- ---- what stands around the tokens of a page, and around the pages of a job

-- the first bytes of a page text: they set copies, size, top margin, cursor and resolution, and start the raster
abbrev pub start_bytes : Dpi → ℕ → Size → List ℕ
start_bytes dpi copies size =
    27 ∷ codes "&l" ++ decimal copies ++ codes "x" ++ decimal (code_of size) ++ codes "a0E"
    ++ 27 ∷ codes "*p0x0Y" ++ 27 ∷ codes "*t" ++ decimal (dots_per_inch dpi) ++ codes "R"
    ++ 27 ∷ codes "*r" ++ decimal (page_width size dpi) ++ codes "s0A"

-- the last bytes of a page text: the end of its raster and a form feed
abbrev pub end_bytes : List ℕ
end_bytes = 27 ∷ codes "*rC" ++ 12 ∷ []

-- what stands before the page texts of a job, and after them
abbrev pub frame_bytes : List ℕ
frame_bytes = 27 ∷ codes "E"

-- ---- commands

-- each parameter of a body is a command
abbrev pub commands_in : Token → ℕ
commands_in opening = 0
commands_in (method digits next ends) = 1
commands_in (skip digits count ends) = 1
commands_in (send digits bytes) = 1

abbrev pub command_count : List Token → ℕ
command_count [] = 0
command_count (token ∷ tokens) = commands_in token + command_count tokens
