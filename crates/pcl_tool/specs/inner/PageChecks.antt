-- What the checker of pages finds of one page.
use Rattle.std.specs.Prelude.{◌≡◌, ℕ, List}
use Rattle.pcl_bitmap.specs.declared.page.Page.{Page}
use Rattle.pcl_cert.specs.declared.check.Verdict.TheVariants as verdicts
use Rattle.pcl_cert.specs.declared.page_proof.PageProof.{PageProof}
use Rattle.pcl_cert.specs.Checking.{IsVerdict}
use Rattle.pcl_tool.specs.declared.job_verdict.JobVerdict.{JobVerdict}
use Rattle.pcl_tool.specs.declared.job_verdict.JobVerdict.TheVariants as job

-- what is found of the text of the page of this number
abbrev pub IsFound : Page → List ℕ → PageProof → ℕ → JobVerdict → Type 0
IsFound page text proof number job.Proved = IsVerdict page text proof.table proof.places verdicts.Proved
IsFound page text proof number (job.Page place verdict) =
    (place ≡ number) × IsVerdict page text proof.table proof.places verdict × (verdict ≡ verdicts.Proved → ⊥)
IsFound page text proof number (job.Certificate fault) = ⊥
IsFound page text proof number job.PageCount = ⊥
IsFound page text proof number job.Frame = ⊥
