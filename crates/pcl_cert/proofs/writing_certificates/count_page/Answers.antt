use Rattle.std.proofs.Common.{◌≡◌, ◌+◌, ◌∙◌, arith, refl}
use Rattle.pcl_cert.proofs.Names.{from_be_bytes-to_be_bytes_4}
use Rattle.pcl_cert.proofs.Counted.{count_there, count_put}
use Rattle.pcl_cert.proofs.writing_certificates.count_page.Goals as goal

pub returns-clause-counted : goal.returns-clause-counted
returns-clause-counted c = λ front rest pages size few is.
    let read : c.from_be_bytes-pages.result ≡ pages =
    rw (c.from_be_bytes-pages.ensures, count_there front rest pages size is) (from_be_bytes-to_be_bytes_4 pages (omega arith)) in
    let more : c.saturating_add.result ≡ pages + 1 = omega (arith, c.saturating_add.ensures, read) in
    count_put front rest pages size is (c.copy_from_slice.ensures.after ∙ rw (c.to_be_bytes.ensures, more) refl)
