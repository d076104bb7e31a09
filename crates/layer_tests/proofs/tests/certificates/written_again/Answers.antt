use Rattle.std.proofs.Common.{subst, sym}
use Rattle.pcl_base.specs.declared.dpi.Dpi.TheVariants.{Dpi300}
use Rattle.pcl_cert.specs.Certificates.{FitFormat, proofs_in}
use Rattle.pcl_cert.proofs.Written.{can_be_written}
use Rattle.layer_tests.proofs.tests.certificates.written_again.Goals as goal

pub write_certificate-requires : goal.write_certificate-requires
write_certificate-requires g c = (
  Dpi300,
  subst (λ proofs. FitFormat Dpi300 c.in-Ok.format (proofs_in c.in-Ok.format proofs)) (sym c.deref-2.ensures.value)
      (can_be_written Dpi300 c.in-Ok.format c.in-Ok.proofs.items c.in-Ok.ensures.found.0),
)
