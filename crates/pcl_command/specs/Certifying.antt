-- What a run reads and writes that writes a job with a certificate.
use Rattle.std.specs.Prelude.{◌≡◌, ℕ, List, ◌⊎◌, Option, Result, Ok, Err}
use Rattle.std.specs.Global.{Vec}
use Rattle.std.specs.Io.KnownBytes.{Keeps}
use Rattle.pcl_base.specs.Limits.{input_limit}
use Rattle.pcl_base.specs.declared.dpi.Dpi.{Dpi}
use Rattle.pcl_base.specs.declared.profile.Profile.TheVariants.{Stated}
use Rattle.pcl_page.specs.Delivering.{IsRefusal}
use Rattle.pcl_cert.specs.declared.format.Format.{Format}
use Rattle.pcl_streams.specs.declared.fault.Fault.{Fault}
use Rattle.pcl_streams.specs.declared.fault.Fault.TheVariants.{Refused, Memory}
use Rattle.pcl_streams.specs.Transfer.{IsReadAll}
use Rattle.pcl_tool.specs.Minimizing.{IsCertifiedJobOf, IsOutputWritten}
use Rattle.pcl_messages.specs.Failures.{FailsUnlessDone, HasFailedFile}
use Rattle.pcl_files.specs.Files.{FileAct, Begun, Unbegun, Dropped}
use Rattle.pcl_request.specs.Resolutions.{IsSeenAt}
use Rattle.pcl_files.specs.WholeFiles.{AreSettled, IsSettledAside}
use Rattle.pcl_messages.specs.declared.failures.Failure.{Failure}
use Rattle.pcl_files.specs.declared.files.FileFault.{FileFault}
use Rattle.pcl_request.specs.declared.request.Certificate.{Certificate}
use Rattle.pcl_request.specs.declared.request.Resolution.{Resolution}
use Rattle.pcl_request.specs.declared.request.Target.{Target}
use Rattle.pcl_request.specs.declared.request.Target.TheVariants.{StandardOutput, File}
use Rattle.pcl_files.specs.World.{World}

-- At the resolution at which it is seen a job is written again with its certificate; or it is refused, or memory ran out, and nothing is
-- written. A check reads a certificate of no more bytes than the limit of inputs, so no longer one is written.
abbrev pub IsCertified : Format → Resolution → (job : List ℕ) → (old new aside_old aside_new : Option (List ℕ))
    → Result (Unit {0}) Fault → Type 0
IsCertified format resolution job old new aside_old aside_new (Err (Refused refusal)) =
    (dpi : Dpi) × IsSeenAt resolution Stated job dpi × IsRefusal dpi job refusal × Keeps old new × Keeps aside_old aside_new
IsCertified format resolution job old new aside_old aside_new (Err Memory) = Keeps old new × Keeps aside_old aside_new
IsCertified format resolution job old new aside_old aside_new written =
    (dpi : Dpi) × (output certificate : List ℕ) × IsSeenAt resolution Stated job dpi × IsCertifiedJobOf dpi format job output certificate
    × IsOutputWritten input_limit output certificate old new aside_old aside_new written

-- the same of the job that a reader gives; or that can't be read, and nothing is written
abbrev pub HasCertifiedRead : {F : Type 0} → Format → Resolution → (before after : World F) → (aside_old aside_new : Option (List ℕ))
    → Result (Unit {0}) Fault → Type 0
HasCertifiedRead format resolution before after aside_old aside_new done =
    ((fault : Fault) × IsReadAll before.given after.given input_limit (Err fault) × (after.written ≡ before.written)
    × (aside_new ≡ aside_old) × (done ≡ Err fault))
    ⊎ ((job : Vec ℕ) × IsReadAll before.given after.given input_limit (Ok job)
    × IsCertified format resolution job.items before.written after.written aside_old aside_new done)

-- The same by where the job goes, with a certificate's file that was begun and holds this, and how that ended. A job's file is begun too,
-- both files are settled, and nothing reaches the writer; or it can't be begun: then the certificate is dropped, and nothing was read.
abbrev pub HasCertifiedTo : {F : Type 0} → (F → FileAct → F → Type 0) → Certificate → (aside : Option (List ℕ)) → Resolution → Target
    → (before after : World F) → Result (Unit {0}) Failure → Type 0
HasCertifiedTo acts certificate aside resolution StandardOutput before after ended =
    (aside_holds : Option (List ℕ)) × (done settled : Result (Unit {0}) Fault)
    × HasCertifiedRead certificate.format resolution before after aside aside_holds done
    × IsSettledAside acts certificate.file.now aside_holds done before.files after.files settled × FailsUnlessDone 0 settled ended
HasCertifiedTo {F} acts certificate aside resolution (File name) before after ended =
    (after.written ≡ before.written)
    × (((why : FileFault) × (failure : Failure) × (unbegun : F) × acts before.files (Unbegun name.now why) unbegun
    × acts unbegun (Dropped certificate.file.now) after.files × (after.given ≡ before.given) × (ended ≡ Err failure)
    × HasFailedFile why failure)
    ⊎ ((begun : F) × (held holds aside_holds : Option (List ℕ)) × (done settled : Result (Unit {0}) Fault)
    × acts before.files (Begun name.now held) begun
    × HasCertifiedRead certificate.format resolution (record before { written = held }) (record after { written = holds })
    aside aside_holds done
    × AreSettled acts name.now holds certificate.file.now aside_holds done begun after.files settled × FailsUnlessDone 0 settled ended))

-- The certificate's file is begun before anything is read. Or it can't be, and then nothing was read or written.
abbrev pub HasCertified : {F : Type 0} → (F → FileAct → F → Type 0) → Certificate → Resolution → Target → (before after : World F)
    → Result (Unit {0}) Failure → Type 0
HasCertified {F} acts certificate resolution target before after ended =
    ((why : FileFault) × (failure : Failure) × acts before.files (Unbegun certificate.file.now why) after.files
    × (after.given ≡ before.given) × (after.written ≡ before.written) × (ended ≡ Err failure) × HasFailedFile why failure)
    ⊎ ((begun : F) × (aside : Option (List ℕ)) × acts before.files (Begun certificate.file.now aside) begun
    × HasCertifiedTo acts certificate aside resolution target (record before { files = begun }) after ended)
