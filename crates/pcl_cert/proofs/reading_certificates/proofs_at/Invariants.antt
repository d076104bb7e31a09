use Rattle.pcl_cert.proofs.Names.{proofs_at}
use Rattle.pcl_cert.proofs.Loops.{Stands}
use Rattle.pcl_cert.proofs.reading_certificates.proofs_at.Given as goal

abbrev pub invariant-loop : goal.invariant-loop
invariant-loop l = Stands (λ n. proofs_at n l.dpi l.format) l.count l.counter l.bytes l.rest l.proofs.items
