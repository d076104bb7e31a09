use Rattle.std.proofs.Common.{◌≡◌, ◌++◌, take}
use Rattle.pcl_cert.proofs.Names.{table_bytes}
use Rattle.pcl_cert.proofs.writing_certificates.append_table.Given as goal

abbrev pub invariant-loop-row : goal.invariant-loop-row
invariant-loop-row l = l.out.items ≡ l.fn.out.items ++ table_bytes (take l.row l.table)
