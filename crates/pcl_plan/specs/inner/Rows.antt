-- The rows that a plan is made for.
use Rattle.std.specs.Prelude.{ℕ, List}
use Rattle.pcl_output.specs.PageText.{rows_from}
use Rattle.pcl_plan.specs.declared.rows.Rows.{Rows}

-- the rows, from the topmost on
abbrev pub rows_of : Rows → List (List ℕ)
rows_of rows = rows_from rows.count rows.width rows.bytes.now
