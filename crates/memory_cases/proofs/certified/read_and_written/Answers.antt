use Rattle.std.proofs.Common.{subst, sym}
use Rattle.pcl_base.specs.declared.dpi.Dpi.TheVariants.{Dpi300}
use Rattle.pcl_cert.specs.Certificates.{FitFormat, proofs_in}
use Rattle.pcl_cert.proofs.Written.{can_be_written}
use Rattle.memory_cases.proofs.certified.read_and_written.Goals as goal

pub write_certificate-requires : goal.write_certificate-requires
write_certificate-requires c = (
  Dpi300,
  subst (λ proofs. FitFormat Dpi300 c.in_ok-format.format (proofs_in c.in_ok-format.format proofs)) (sym c.deref.ensures.value)
      (can_be_written Dpi300 c.in_ok-format.format c.in_ok-format.proofs.items c.in_ok-format.ensures.found.0),
)
