use Rattle.std.proofs.Common.{◌+◌, ◌<◌, ℕ, List, false, arith}
use Rattle.pcl_plan.proofs.Names.{by_method, rows_of, Rows, RowNumbers, IsReadable, AreRowsRightFrom, IsWhiteRun, length_rows, node, length_small, row_cost_small}
use Rattle.pcl_plan.proofs.Filled.{readable, direct_of_start}
use Rattle.pcl_plan.proofs.fill.row_numbers.Goals as goal

readable_rows : (rows : Rows) {table : List RowNumbers} {row run : ℕ} → AreRowsRightFrom rows.width (rows_of rows) table (row + 1)
    → IsWhiteRun (rows_of rows) row run → row + run < rows.count → IsReadable table row run
readable_rows rows {table} {row} {run} right is ink =
    let count = length_rows rows.count rows.width rows.bytes.now in
    readable rows.width (rows_of rows) table row run (omega (arith, count, rows.few)) right is (omega (arith, count))

pub least_starts-requires-clause-readable : goal.least_starts-requires-clause-readable
least_starts-requires-clause-readable g c = readable_rows c.args.rows.now c.requires.right c.requires.run c.requires.ink

pub least_starts-requires-clause-bytes : goal.least_starts-requires-clause-bytes
least_starts-requires-clause-bytes g c = λ method. length_small (c.least_lengths-bytes.ensures method)

pub from_direct-requires : goal.from_direct-requires
from_direct-requires g c = λ method.
    let is = readable_rows c.args.rows.now c.requires.right c.requires.run c.requires.ink in
    let cost_small = row_cost_small (by_method c.least_lengths-bytes.result method) (length_small (c.least_lengths-bytes.ensures method)) in
    omega (arith, (c.least_starts.ensures method).sent, is.small (node (c.args.row + 1) method false) (omega arith) is.next)

pub returns : goal.returns
returns g c = record {
  direct = by_method c.least_starts.result;
  are_direct = λ method. direct_of_start c.requires.run (c.least_lengths-bytes.ensures method) (c.least_starts.ensures method);
  switched = c.from_direct.ensures;
}
