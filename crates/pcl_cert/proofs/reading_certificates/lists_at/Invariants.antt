use Rattle.std.proofs.Common.{◌*◌}
use Rattle.pcl_cert.proofs.Lists.{StandsInLists}
use Rattle.pcl_cert.proofs.reading_certificates.lists_at.Given as goal

abbrev pub invariant-loop : goal.invariant-loop
invariant-loop l = StandsInLists (4 * l.rows) l.most l.counter l.bytes l.rest l.starts.items
