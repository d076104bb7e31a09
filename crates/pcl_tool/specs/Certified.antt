-- Page texts that the checker answers Proved.
use Rattle.std.specs.Prelude.{◌≡◌, ℕ, List, length}
use Rattle.std.specs.List.{zip}
use Rattle.pcl_base.specs.declared.dpi.Dpi.{Dpi}
use Rattle.pcl_bitmap.specs.declared.page.Page.{Page}
use Rattle.pcl_page.specs.Situation.{Sheet}
use Rattle.pcl_page.specs.Performing.{Shows}
use Rattle.pcl_cert.specs.declared.check.Verdict.{Verdict}
use Rattle.pcl_cert.specs.declared.check.Verdict.TheVariants.{Proved}
use Rattle.pcl_cert.specs.declared.page_proof.PageProof.{PageProof}
use Rattle.pcl_cert.specs.Checking.{IsVerdict}
use Rattle.pcl_meaning.specs.JobTexts.{AreTexts}

-- a text of the length that a proof says, of which the checker answers so for a page that shows the sheet dot for dot
pub record IsAnswered (dpi : Dpi) (sheet : Sheet) (text : List ℕ) (proof : PageProof) (verdict : Verdict) : Type 0 where
  pub page : Page
  pub shows : Shows dpi page sheet
  pub as_long : length text ≡ proof.text_len
  pub verdict_is : IsVerdict page text proof.table proof.places verdict

-- as many proofs as pages, and for each page in order a text that is Proved
abbrev pub AreProved : Dpi → List Sheet → List ℕ → List PageProof → Type 0
AreProved dpi sheets texts proofs =
    (length sheets ≡ length proofs)
    × AreTexts (λ (claim : Sheet × PageProof) (text : List ℕ). IsAnswered dpi claim.0 text claim.1 Proved) (zip sheets proofs) texts
