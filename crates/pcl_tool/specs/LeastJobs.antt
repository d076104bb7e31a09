-- The headline: a job text of the pages of an input, no job text of these pages is shorter, and a certificate shows it.
use Rattle.std.specs.Prelude.{◌≡◌, ℕ, List, ◌++◌}
use Rattle.pcl_base.specs.declared.dpi.Dpi.{Dpi}
use Rattle.pcl_page.specs.Situation.{Sheet}
use Rattle.pcl_page.specs.Jobs.{HasPages}
use Rattle.pcl_output.specs.Tokens.{frame_bytes}
use Rattle.pcl_cert.specs.declared.format.Format.{Format}
use Rattle.pcl_cert.specs.declared.page_proof.PageProof.{PageProof}
use Rattle.pcl_cert.specs.Certificates.{AreProofs, certificate_bytes}
use Rattle.pcl_meaning.specs.JobTexts.{IsLeastJobText}
use Rattle.pcl_tool.specs.Certified.{AreProved}

-- the input has these pages, and the output is the least job text of them
pub record IsLeastJobOf (dpi : Dpi) (input output : List ℕ) : Type 0 where
  pub pages : List Sheet
  pub meaning : HasPages dpi input pages
  pub is_least : IsLeastJobText dpi pages output

-- the output is a job text, and the certificate the bytes of proofs by which its text of each of the input's pages is
-- Proved
pub record IsCertifiedBy (dpi : Dpi) (input output certificate : List ℕ) : Type 0 where
  pub pages : List Sheet
  pub meaning : HasPages dpi input pages
  pub texts : List ℕ
  pub spelled : output ≡ frame_bytes ++ texts ++ frame_bytes
  pub format : Format
  pub proofs : List PageProof
  pub can_be_said : AreProofs dpi format proofs
  pub certificate_is : certificate ≡ certificate_bytes format proofs
  pub proved : AreProved dpi pages texts proofs
