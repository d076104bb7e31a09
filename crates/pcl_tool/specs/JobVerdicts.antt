-- What the checker of a job answers of an input, an output and a certificate, whoever made these.
use Rattle.std.specs.Prelude.{◌≡◌, ℕ, ◌+◌, List, [], ◌∷◌, ◌++◌, length, Result, Ok, Err}
use Rattle.pcl_base.specs.declared.dpi.Dpi.{Dpi}
use Rattle.pcl_page.specs.Situation.{Sheet}
use Rattle.pcl_page.specs.Jobs.{HasPages}
use Rattle.pcl_page.specs.Delivering.{IsRefusal}
use Rattle.pcl_output.specs.Tokens.{frame_bytes}
use Rattle.pcl_cert.specs.declared.check.Verdict.{Verdict}
use Rattle.pcl_cert.specs.declared.check.Verdict.TheVariants as verdicts
use Rattle.pcl_cert.specs.declared.fault.CertFault.TheVariants as faults
use Rattle.pcl_cert.specs.declared.format.Format.{Format}
use Rattle.pcl_cert.specs.declared.page_proof.PageProof.{PageProof}
use Rattle.pcl_cert.specs.ReadingCertificates.{certificate_at}
use Rattle.pcl_streams.specs.declared.fault.Fault.{Fault}
use Rattle.pcl_streams.specs.JobFaults.{RefusedOrMemory}
use Rattle.pcl_streams.specs.declared.fault.Fault.TheVariants.{Refused, Memory, ReadFault, TooLong, WriteFault, NoSuchPage}
use Rattle.pcl_tool.specs.declared.job_verdict.JobVerdict.{JobVerdict}
use Rattle.pcl_tool.specs.declared.job_verdict.JobVerdict.TheVariants as job
use Rattle.pcl_tool.specs.Certified.{IsAnswered, AreProved}

-- ---- what is compared

-- the input has these pages, and the certificate says this of them
pub record AreCompared (dpi : Dpi) (input certificate : List ℕ) : Type 0 where
  pub pages : List Sheet
  pub meaning : HasPages dpi input pages
  pub format : Format
  pub proofs : List PageProof
  pub certified : certificate_at dpi certificate ≡ Ok (format, proofs)

-- as many bytes as the texts have together
abbrev pub text_bytes : List PageProof → ℕ
text_bytes [] = 0
text_bytes (proof ∷ proofs) = proof.text_len + text_bytes proofs

-- a job text whose page texts have as many bytes as the certificate says
pub record IsFramed (output texts : List ℕ) (proofs : List PageProof) : Type 0 where
  pub spelled : output ≡ frame_bytes ++ texts ++ frame_bytes
  pub as_long : length texts ≡ text_bytes proofs

-- ---- the first page that isn't proved

-- The texts of the pages before it are Proved, and this verdict on its own text isn't. Pages are counted from 1.
pub record IsFirstFailure (dpi : Dpi) (pages : List Sheet) (texts : List ℕ) (proofs : List PageProof) (number : ℕ) (verdict : Verdict)
    : Type 0 where
  pub pages_before : List Sheet
  pub sheet : Sheet
  pub pages_after : List Sheet
  pub pages_are : pages ≡ pages_before ++ sheet ∷ pages_after
  pub proofs_before : List PageProof
  pub proof : PageProof
  pub proofs_after : List PageProof
  pub proofs_are : proofs ≡ proofs_before ++ proof ∷ proofs_after
  pub texts_before : List ℕ
  pub text : List ℕ
  pub texts_after : List ℕ
  pub texts_are : texts ≡ texts_before ++ (text ++ texts_after)
  pub proved_before : AreProved dpi pages_before texts_before proofs_before
  pub counted : number ≡ length pages_before + 1
  pub answered : IsAnswered dpi sheet text proof verdict
  pub not_proved : verdict ≡ verdicts.Proved → ⊥

-- ---- verdicts

-- The first test that fails answers, in this order: the certificate is one; it speaks of as many pages as the input has; the
-- output is a job text with texts of its lengths; each text is Proved.
abbrev pub IsJobVerdict : Dpi → List ℕ → List ℕ → List ℕ → JobVerdict → Type 0
IsJobVerdict dpi input output certificate (job.Certificate faults.Memory) = ⊥
IsJobVerdict dpi input output certificate (job.Certificate fault) =
    (pages : List Sheet) × HasPages dpi input pages × (certificate_at dpi certificate ≡ Err fault)
IsJobVerdict dpi input output certificate job.PageCount =
    (compared : AreCompared dpi input certificate) × (length compared.pages ≡ length compared.proofs → ⊥)
IsJobVerdict dpi input output certificate job.Frame =
    (compared : AreCompared dpi input certificate) × (length compared.pages ≡ length compared.proofs)
    × ((texts : List ℕ) → IsFramed output texts compared.proofs → ⊥)
IsJobVerdict dpi input output certificate (job.Page number verdict) =
    (compared : AreCompared dpi input certificate) × (length compared.pages ≡ length compared.proofs)
    × (texts : List ℕ) × IsFramed output texts compared.proofs
    × IsFirstFailure dpi compared.pages texts compared.proofs number verdict
IsJobVerdict dpi input output certificate job.Proved =
    (compared : AreCompared dpi input certificate) × (texts : List ℕ) × IsFramed output texts compared.proofs
    × AreProved dpi compared.pages texts compared.proofs

-- a job that is refused is refused as by its performing; no fault comes but this and out of memory
abbrev pub IsChecked : Dpi → List ℕ → List ℕ → List ℕ → Result JobVerdict Fault → Type 0
IsChecked dpi input output certificate (Ok verdict) = IsJobVerdict dpi input output certificate verdict
IsChecked dpi input output certificate (Err fault) = RefusedOrMemory (IsRefusal dpi input) fault
