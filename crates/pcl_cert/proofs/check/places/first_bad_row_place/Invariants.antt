use Rattle.std.proofs.Common.{ℕ, ◌<◌, ◌≤◌}
use Rattle.pcl_cert.proofs.Names.{Method, page_row_bytes, IsGoodInTables}
use Rattle.pcl_cert.proofs.check.places.first_bad_row_place.Given as goal

-- the numbers of the rows so far are good
abbrev pub invariant-loop-row : goal.invariant-loop-row
invariant-loop-row l = (row : ℕ) (method : Method) (place : ℕ) → row < l.row → place ≤ page_row_bytes l.page.size l.page.dpi
    → IsGoodInTables l.page l.tables row method place
