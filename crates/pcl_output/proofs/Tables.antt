-- Numbers of tables.
use Rattle.std.proofs.Common.{◌≡◌, ◌≤◌, List, length, arith}
use Rattle.pcl_output.proofs.Names.{get_or_past, Node, no_numbers, node_number, RowNumbers}

-- after more rows than a table has, its numbers are 0
pub number_past : (table : List RowNumbers) (a : Node) → length table ≤ a.row → node_number table a ≡ 0
number_past table a past = grind (arith, get_or_past table a.row no_numbers past)
