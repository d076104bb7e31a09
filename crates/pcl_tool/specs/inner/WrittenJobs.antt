-- A job while it is written.
use Rattle.std.specs.Prelude.{◌≡◌, ℕ, ◌≤◌, List, [], ◌++◌, length, Option, Some, None, Result, Ok, Err}
use Rattle.pcl_base.specs.declared.dpi.Dpi.{Dpi}
use Rattle.pcl_bitmap.specs.declared.page.Page.{Page}
use Rattle.pcl_writer.specs.Appending.{IsWrittenPage}
use Rattle.pcl_cert.specs.declared.format.Format.{Format}
use Rattle.pcl_cert.specs.declared.page_proof.PageProof.{PageProof}
use Rattle.pcl_cert.specs.declared.check.Verdict.TheVariants.{Proved}
use Rattle.pcl_cert.specs.Certificates.{IsProof, HasProofMore, certificate_bytes}
use Rattle.pcl_cert.specs.Checking.{IsVerdict}
use Rattle.pcl_page.specs.Delivering.{IsRefusal}
use Rattle.pcl_streams.specs.declared.fault.Fault.{Fault}
use Rattle.pcl_tool.specs.declared.minimizing.Output.{Output}
use Rattle.pcl_tool.specs.declared.written_job.WrittenJob.TheInside.{Inside}
use Rattle.pcl_streams.specs.JobFaults.{RefusedOrMemory}
use Rattle.pcl_tool.specs.Minimizing.{IsMinimized}
use Rattle.pcl_tool.specs.Writing.{IsWrittenJob}

-- the bytes of a job so far, and the certificate of its pages, where one of a format is wanted
pub record SoFar : Type 0 where
  pub format : Option Format
  pub bytes : List ℕ
  pub certificate : List ℕ

abbrev pub so_far : Inside → SoFar
so_far a = record { format = a.format; bytes = a.bytes.items; certificate = a.certificate.items }

-- a certificate is long enough for the count of its pages
abbrev pub IsCounted : Option Format → List ℕ → Type 0
IsCounted None certificate = Unit {0}
IsCounted (Some format) certificate = 12 ≤ length certificate

abbrev pub HasCount : Inside → Type 0
HasCount a = IsCounted a.format a.certificate.items

-- the certificate of no page
abbrev pub CertifiesNoPage : Option Format → List ℕ → Type 0
CertifiesNoPage None certificate = certificate ≡ []
CertifiesNoPage (Some format) certificate = certificate ≡ certificate_bytes format []

-- what a certificate says of a page's text
pub record Proves (format : Format) (page : Page) (text : List ℕ) (proof : PageProof) : Type 0 where
  pub text_len : length text ≡ proof.text_len
  pub can_be_said : IsProof page.dpi format proof
  pub proved : IsVerdict page text proof.table proof.places Proved

-- what proves a page text is appended to the certificate
pub record IsProvedMore (format : Format) (page : Page) (text old new : List ℕ) : Type 0 where
  pub proof : PageProof
  pub certificate : HasProofMore format proof old new
  pub proves : Proves format page text proof

abbrev pub IsProvedIn : Option Format → Page → (text old new : List ℕ) → Type 0
IsProvedIn None page text old new = Unit {0}
IsProvedIn (Some format) page text old new = IsProvedMore format page text old new

-- a page text is appended, and where a certificate is wanted, what proves it to that
pub record TakesText (old : SoFar) (page : Page) (new : SoFar) : Type 0 where
  pub text : List ℕ
  pub bytes : new.bytes ≡ old.bytes ++ text
  pub written : IsWrittenPage page text
  pub proved : IsProvedIn old.format page text old.certificate new.certificate
  pub format : new.format ≡ old.format

-- the least raster job of a job, and its certificate where one is wanted
abbrev pub IsOutput : Dpi → List ℕ → Option Format → Result Output Fault → Type 0
IsOutput dpi job (Some format) result = IsMinimized dpi format job result
IsOutput dpi job None (Ok output) = IsWrittenJob dpi job output.job.items
IsOutput dpi job None (Err fault) = RefusedOrMemory (IsRefusal dpi job) fault
