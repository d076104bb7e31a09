-- A job written again.
use Rattle.std.specs.Prelude.{◌≡◌, ℕ, ◌+◌, ◌<◌, ◌≤◌, List, length, ◌⊎◌, Option, Result, Ok, Err}
use Rattle.std.specs.Io.KnownBytes.{Consumes, Appends, IsAtEnd, Keeps}
use Rattle.pcl_base.specs.declared.dpi.Dpi.{Dpi}
pub use Rattle.pcl_base.specs.Limits.{input_limit}
use Rattle.pcl_page.specs.Situation.{Sheet}
use Rattle.pcl_page.specs.Delivering.{IsRefusal}
use Rattle.pcl_cert.specs.declared.format.Format.{Format}
use Rattle.pcl_cert.specs.declared.page_proof.PageProof.{PageProof}
use Rattle.pcl_cert.specs.Certificates.{AreProofs, certificate_bytes}
use Rattle.pcl_streams.specs.declared.fault.Fault.{Fault}
use Rattle.pcl_streams.specs.JobFaults.{RefusedOrMemory}
use Rattle.pcl_streams.specs.declared.fault.Fault.TheVariants.{Refused, Memory, ReadFault, TooLong, CertificateTooLong, WriteFault, NoSuchPage}
use Rattle.pcl_tool.specs.declared.minimizing.Output.{Output}
use Rattle.pcl_streams.specs.Transfer.{GivesAtMost, AppendsFront}
use Rattle.pcl_tool.specs.Certified.{AreProved}
use Rattle.pcl_tool.specs.Writing.{IsWrittenJob}

-- The certificate of the page texts of some pages: by what it says of each, the checker answers Proved on its text.
pub record IsCertificate (dpi : Dpi) (format : Format) (pages : List Sheet) (texts certificate : List ℕ) : Type 0 where
  pub proofs : List PageProof
  pub can_be_said : AreProofs dpi format proofs
  pub spelled : certificate ≡ certificate_bytes format proofs
  pub proved : AreProved dpi pages texts proofs

-- a job that is written, and its certificate
pub record IsCertifiedJobOf (dpi : Dpi) (format : Format) (job output certificate : List ℕ) : Type 0 where
  pub job_is : IsWrittenJob dpi job output
  pub certified : IsCertificate dpi format job_is.written.pages job_is.written.texts certificate

abbrev pub IsMinimized : Dpi → Format → List ℕ → Result Output Fault → Type 0
IsMinimized dpi format job (Ok output) = IsCertifiedJobOf dpi format job output.job.items output.certificate.items
IsMinimized dpi format job (Err fault) = RefusedOrMemory (IsRefusal dpi job) fault

-- the whole input was read
pub record IsRead (old new : Option (List ℕ)) (job : List ℕ) : Type 0 where
  pub given : Consumes old new job
  pub ended : IsAtEnd new

-- what a reader gave and a writer holds after a filter
abbrev pub IsFiltered : Dpi → Option (List ℕ) → Option (List ℕ) → Option (List ℕ) → Option (List ℕ) → Result (Unit {0}) Fault → Type 0
IsFiltered dpi given left old new (Ok unit) =
    (job output : List ℕ) × IsRead given left job × IsWrittenJob dpi job output × Appends old new output
IsFiltered dpi given left old new (Err WriteFault) =
    (job output : List ℕ) × IsRead given left job × IsWrittenJob dpi job output × AppendsFront old new output
IsFiltered dpi given left old new (Err (Refused refusal)) =
    (job : List ℕ) × IsRead given left job × IsRefusal dpi job refusal × Keeps old new
IsFiltered dpi given left old new (Err Memory) = GivesAtMost given left (input_limit + 1) × Keeps old new
IsFiltered dpi given left old new (Err ReadFault) = GivesAtMost given left input_limit × Keeps old new
IsFiltered dpi given left old new (Err TooLong) =
    (bytes : List ℕ) × Consumes given left bytes × (length bytes ≡ input_limit + 1) × Keeps old new
IsFiltered dpi given left old new (Err CertificateTooLong) = ⊥
IsFiltered dpi given left old new (Err NoSuchPage) = ⊥

-- a job was written, and its certificate, which has no more bytes than a limit; or it has more, and nothing was written; or a write
-- failed, and there is a prefix of the job and nothing of the certificate, or the job and a prefix of the certificate
abbrev pub IsOutputWritten : ℕ → (output certificate : List ℕ) → (old new cert_old cert_new : Option (List ℕ))
    → Result (Unit {0}) Fault → Type 0
IsOutputWritten limit output certificate old new cert_old cert_new (Ok unit) =
    (length certificate ≤ limit) × Appends old new output × Appends cert_old cert_new certificate
IsOutputWritten limit output certificate old new cert_old cert_new (Err CertificateTooLong) =
    (limit < length certificate) × Keeps old new × Keeps cert_old cert_new
IsOutputWritten limit output certificate old new cert_old cert_new (Err WriteFault) =
    (length certificate ≤ limit)
    × ((AppendsFront old new output × Keeps cert_old cert_new) ⊎ (Appends old new output × AppendsFront cert_old cert_new certificate))
IsOutputWritten limit output certificate old new cert_old cert_new (Err fault) = ⊥

-- What a reader gave, and what a writer and a second one hold after a filter with a certificate. A check reads a certificate of no
-- more bytes than the limit of inputs, so no longer one is written.
abbrev pub IsFilteredCert : Dpi → Format → (given left old new cert_old cert_new : Option (List ℕ)) → Result (Unit {0}) Fault → Type 0
IsFilteredCert dpi format given left old new cert_old cert_new (Err (Refused refusal)) =
    (job : List ℕ) × IsRead given left job × IsRefusal dpi job refusal × Keeps old new × Keeps cert_old cert_new
IsFilteredCert dpi format given left old new cert_old cert_new (Err Memory) =
    GivesAtMost given left (input_limit + 1) × Keeps old new × Keeps cert_old cert_new
IsFilteredCert dpi format given left old new cert_old cert_new (Err ReadFault) =
    GivesAtMost given left input_limit × Keeps old new × Keeps cert_old cert_new
IsFilteredCert dpi format given left old new cert_old cert_new (Err TooLong) =
    (bytes : List ℕ) × Consumes given left bytes × (length bytes ≡ input_limit + 1) × Keeps old new × Keeps cert_old cert_new
IsFilteredCert dpi format given left old new cert_old cert_new (Err NoSuchPage) = ⊥
IsFilteredCert dpi format given left old new cert_old cert_new written =
    (job output certificate : List ℕ) × IsRead given left job × IsCertifiedJobOf dpi format job output certificate
    × IsOutputWritten input_limit output certificate old new cert_old cert_new written
