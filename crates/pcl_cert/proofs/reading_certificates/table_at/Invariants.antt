use Rattle.std.proofs.Common.{◌≡◌, ◌+◌, length}
use Rattle.pcl_cert.proofs.Names.{table_at}
use Rattle.pcl_cert.proofs.Loops.{Stands}
use Rattle.pcl_cert.proofs.reading_certificates.table_at.Given as goal

abbrev pub invariant-loop : goal.invariant-loop
invariant-loop l = Stands table_at (l.rows + 1) l.counter l.bytes l.rest l.numbers.items × (length l.numbers.items ≡ l.counter)
