-- How far a page is moved on its sheet, in ten-thousandths of a decipoint.
use Rattle.std.specs.Prelude.{ℕ, ◌+◌, ◌/◌, ◌%◌, ◌==◌, ◌&&◌, Bool, if◌then◌else◌, List, [], ◌∷◌, ◌++◌, take, Option, codes, decimal, unwrap_or, ℤ, pos, negsuc, unsigned_abs}
use Rattle.std.specs.Ordering.{int_eq}
use Rattle.pcl_base.specs.declared.value.Value.{Value}
use Rattle.pcl_base.specs.Value.{whole_of, with_sign}
use Rattle.pcl_env.specs.declared.asked.Asked.{Asked}

-- an offset of less than a decipoint is 0
abbrev pub page_offset : Value → ℤ
page_offset v = if whole_of v == 0 then pos 0 else with_sign v.sign v.parts

-- the page lies where these offsets put it: where none is said, at 0
abbrev pub lies_at : Option ℤ → ℤ
lies_at said = unwrap_or said (pos 0)

-- both put the page in one place on its sheet
abbrev pub lie_together : Asked → Asked → Bool
lie_together one other =
    int_eq (lies_at one.left_offset) (lies_at other.left_offset) && int_eq (lies_at one.top_offset) (lies_at other.top_offset)

-- ---- as a value field spells it

-- the four decimals of ten-thousandths, and how many of them there are up to the last that isn't 0
abbrev pub decimals : ℕ → List ℕ
decimals rest = (48 + rest / 1000) ∷ (48 + rest / 100 % 10) ∷ (48 + rest / 10 % 10) ∷ (48 + rest % 10) ∷ []

abbrev pub decimal_count : ℕ → ℕ
decimal_count rest =
    if rest % 1000 == 0 then 1 else (if rest % 100 == 0 then 2 else (if rest % 10 == 0 then 3 else 4))

abbrev pub decimals_text : ℕ → List ℕ
decimals_text rest = if rest == 0 then [] else codes "." ++ take (decimal_count rest) (decimals rest)

abbrev pub minus_text : ℤ → List ℕ
minus_text (pos n) = []
minus_text (negsuc n) = codes "-"

abbrev pub parts_text : ℕ → List ℕ
parts_text parts = decimal (parts / 10000) ++ decimals_text (parts % 10000)

abbrev pub offset_text : ℤ → List ℕ
offset_text offset = minus_text offset ++ parts_text (unsigned_abs offset)
