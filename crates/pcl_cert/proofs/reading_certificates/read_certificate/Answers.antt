use Rattle.pcl_cert.proofs.Names.{arith}
use Rattle.pcl_cert.proofs.PagesSpelled.{is_found, certificate_again}
use Rattle.pcl_cert.proofs.reading_certificates.read_certificate.Goals as goal

pub returns-clause-found : goal.returns-clause-found
returns-clause-found c = is_found c.args.dpi c.args.bytes.now c.read_all.result (λ i. omega (arith, c.type_inv.bytes i)) c.read_all.ensures

pub returns-clause-only : goal.returns-clause-only
returns-clause-only c = λ format proofs are e. rw (e, certificate_again c.args.dpi format are) at c.read_all.ensures
