use Rattle.std.proofs.Common.{◌≡◌, ◌++◌, take}
use Rattle.pcl_cert.proofs.Names.{flat_map, list_bytes, lists_within}
use Rattle.pcl_cert.proofs.tables.append_lists.Given as goal

abbrev pub invariant-loop-start : goal.invariant-loop-start
invariant-loop-start l = l.out.items ≡ l.fn.out.items ++ flat_map list_bytes (lists_within l.bytes (take l.start-index l.starts))
