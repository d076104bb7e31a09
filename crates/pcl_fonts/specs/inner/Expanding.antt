-- How compressed rows are expanded.
use Rattle.std.specs.Prelude.{◌≡◌, ℕ, ◌+◌, ◌/◌, Bool, true, false, List, ◌++◌, Option, Some, None}
use Rattle.pcl_fonts.specs.Compressed.{row_by_runs, bytes_of}

-- a row of this width that stands at the front of data, and the data after it, if they have one
abbrev pub HasRow : ℕ → List ℕ → List ℕ → Option (List ℕ) → Type 0
HasRow width bytes row None = row_by_runs false width bytes ≡ None
HasRow width bytes row (Some rest) =
    (bits : List Bool) × (row_by_runs false width bytes ≡ Some (record { bits = bits; rest = rest }))
    × (row ≡ bytes_of ((width + 7) / 8) bits)

-- the rows that data give, if they do, stand after those that stood there
abbrev pub HasRows : List ℕ → List ℕ → Bool → Option (List ℕ) → Type 0
HasRows old new true given = (rows : List ℕ) × (given ≡ Some rows) × (new ≡ old ++ rows)
HasRows old new false given = given ≡ None
