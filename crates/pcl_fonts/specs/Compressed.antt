-- Compressed characters, whose rows stand in the data as runs of bits (docs/LANGUAGE.md, "The drivers' profile"). A bit is true
-- where it is black.
use Rattle.std.specs.Prelude.{ℕ, zero, suc, ◌+◌, ◌-◌, ◌/◌, ◌^◌, Bool, false, not, nat_le, if◌then◌else◌, List, [], ◌∷◌, ◌++◌, drop, replicate, Option, Some, None}
use Rattle.std.specs.List.{concat}
use Rattle.std.specs.Option.{option_map, option_and_then}

-- the number that this many bits of a byte make, the first of them the highest; bits that aren't there are white
unfoldable pub byte_of : ℕ → List Bool → ℕ
byte_of zero bits = 0
byte_of (suc more) [] = 0
byte_of (suc more) (black ∷ bits) = (if black then 2 ^ more else 0) + byte_of more bits

-- this many bytes of bits, eight to a byte
unfoldable pub bytes_of : ℕ → List Bool → List ℕ
bytes_of zero bits = []
bytes_of (suc more) bits = byte_of 8 bits ∷ bytes_of more (drop 8 bits)

-- the bits at the front of data, and the data after them
pub record RowFront : Type 0 where
  pub bits : List Bool
  pub rest : List ℕ

-- the same after other bits
abbrev pub preceded : List Bool → RowFront → RowFront
preceded bits front = record { bits = bits ++ front.bits; rest = front.rest }

-- The bits of a row: runs of this colour and of the other in turn, up to the row's width. There are none where the data end before,
-- or a run goes past the width.
unfoldable pub row_by_runs : Bool → ℕ → List ℕ → Option RowFront
row_by_runs black zero bytes = Some (record { bits = []; rest = bytes })
row_by_runs black (suc more) [] = None
row_by_runs black (suc more) (run ∷ bytes) =
    if nat_le run (suc more) then option_map (preceded (replicate run black)) (row_by_runs (not black) (suc more - run) bytes) else None

-- A row that stands once and is repeated, before other rows.
abbrev pub with_copies : ℕ → List ℕ → List ℕ → List ℕ
with_copies repeats row rows = concat (replicate (repeats + 1) row) ++ rows

-- The rows of at most this many groups, up to the pattern's height. A group is a byte that says how often its row is repeated, and the
-- row, which begins white. There are none where the data end before, or repetitions go past the height.
unfoldable pub rows_by_groups : ℕ → ℕ → ℕ → List ℕ → Option (List ℕ)
rows_by_groups most width zero bytes = Some []
rows_by_groups zero width (suc below) bytes = None
rows_by_groups (suc most) width (suc below) [] = None
rows_by_groups (suc most) width (suc below) (repeats ∷ bytes) =
    if nat_le repeats below then option_and_then (λ front.
    option_map (with_copies repeats (bytes_of ((width + 7) / 8) front.bits)) (rows_by_groups most width (below - repeats) front.rest))
    (row_by_runs false width bytes)
    else None

-- the rows of a pattern of this width and height, where data give them; each group gives one at least
unfoldable pub expanded : ℕ → ℕ → List ℕ → Option (List ℕ)
expanded width height bytes = rows_by_groups height width height bytes
