-- The model of a table.
use Rattle.std.specs.Prelude.{◌<◌, ◌≤◌, List, length}
use Rattle.pcl_output.specs.declared.table.RowNumbers.{RowNumbers}
use Rattle.pcl_output.specs.declared.table.Table.TheInside.{Inside}

abbrev pub table_view : Inside → List RowNumbers
table_view a = a.numbers.items

abbrev pub IsTable : Inside → Type 0
IsTable a = (0 < length a.numbers.items) × (length a.numbers.items ≤ 65536)
