use Rattle.std.proofs.Common.{ℕ, ◌<◌}
use Rattle.pcl_check.proofs.Names.{page_height, node_number, IsGoodSending}
use Rattle.pcl_check.proofs.edges.first_bad_sending.Given as goal

abbrev pub invariant-loop-row : goal.invariant-loop-row
invariant-loop-row g l =
    (k : ℕ) → k < l.row → IsGoodSending (page_height l.page.size l.page.dpi) (g.L.RowLengths.counts l.lengths l.page) (node_number l.table)
    l.method k
