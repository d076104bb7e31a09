-- White rows that follow each other.
use Rattle.std.specs.Prelude.{ℕ, ◌+◌, ◌<◌, ◌≤◌, List, length, take, drop}
use Rattle.pcl_output.specs.Tokens.{IsWhite, AreWhite}
use Rattle.pcl_output.specs.Nodes.{row_at}

-- some rows from a row on that are white
abbrev pub AreSkippable : List (List ℕ) → ℕ → ℕ → Type 0
AreSkippable rows row count = (0 < count) × (row + count ≤ length rows) × AreWhite (take count (drop row rows))

-- how many rows are white from a row on
pub record IsWhiteRun (rows : List (List ℕ)) (row run : ℕ) : Type 0 where
  pub within : row + run ≤ length rows
  pub white : AreWhite (take run (drop row rows))
  pub longest : row + run < length rows → IsWhite (row_at rows (row + run)) → ⊥
