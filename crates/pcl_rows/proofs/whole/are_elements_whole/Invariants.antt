use Rattle.std.proofs.Common.{◌↔◌, length}
use Rattle.pcl_rows.proofs.Names.{IsWhole}
use Rattle.pcl_rows.proofs.whole.are_elements_whole.Given as goal

abbrev pub invariant-loop-rest : goal.invariant-loop-rest
invariant-loop-rest l = IsWhole l.method l.bytes l.row_bytes ↔ IsWhole l.method l.rest l.room

abbrev pub decreases-loop-rest : goal.decreases-loop-rest
decreases-loop-rest l = length l.rest
