use Rattle.std.proofs.Common.{Option, Result, Ok}
use Rattle.pcl_base.specs.Limits.{input_limit}
use Rattle.pcl_cert.specs.declared.format.Format.{Format}
use Rattle.pcl_streams.specs.declared.fault.Fault.TheVariants.{CertificateTooLong}
use Rattle.pcl_tool.specs.Minimizing.{IsCertifiedJobOf, IsOutputWritten}
use Rattle.pcl_request.specs.Resolutions.{IsSeenAt}
use Rattle.pcl_request.specs.declared.request.Resolution.{Resolution}
use Rattle.pcl_command.proofs.Names.{List, ℕ, Err, Dpi, Stated, Fault, WriteFault}
use Rattle.pcl_command.specs.Certifying.{IsCertified}
use Rattle.pcl_command.proofs.certifying.certify_job.Goals as goal

-- a job and its certificate were written, or what became of that
certified : (format : Format) (resolution : Resolution) (dpi : Dpi) (old new aside_old aside_new : Option (List ℕ))
    {job output certificate : List ℕ} (done : Result (Unit {0}) Fault) → IsSeenAt resolution Stated job dpi
    → IsCertifiedJobOf dpi format job output certificate
    → IsOutputWritten input_limit output certificate old new aside_old aside_new done
    → IsCertified format resolution job old new aside_old aside_new done
certified format resolution dpi old new aside_old aside_new (Ok unit) s j w = (dpi, _, _, s, j, w)
certified format resolution dpi old new aside_old aside_new (Err WriteFault) s j w = (dpi, _, _, s, j, w)
certified format resolution dpi old new aside_old aside_new (Err CertificateTooLong) s j w = (dpi, _, _, s, j, w)
certified format resolution dpi old new aside_old aside_new other s j w = absurd w

pub returns : goal.returns
returns g c =
    certified c.args.format c.args.resolution c.in_ok-dpi.dpi _ _ _ _ _ c.in_ok-dpi.ensures c.in_ok-output.ensures
    c.write_output.ensures
