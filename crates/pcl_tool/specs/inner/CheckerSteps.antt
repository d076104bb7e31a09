-- What becomes of the checker of pages with a page.
use Rattle.std.specs.Prelude.{◌≡◌, ℕ, ◌+◌, List, [], ◌∷◌, take, drop}
use Rattle.pcl_bitmap.specs.declared.page.Page.{Page}
use Rattle.pcl_cert.specs.declared.page_proof.PageProof.{PageProof}
use Rattle.pcl_tool.specs.declared.job_verdict.JobVerdict.{JobVerdict}
use Rattle.pcl_tool.specs.declared.job_verdict.JobVerdict.TheVariants as job
use Rattle.pcl_tool.specs.declared.page_checks.Checker.{Checker}
use Rattle.pcl_tool.specs.JobVerdicts.{IsFramed}
use Rattle.pcl_tool.specs.inner.PageChecks.{IsFound}

-- as long as nothing is wrong, the next text is looked at; what is found wrong stays
abbrev pub FindsNext : JobVerdict → PageProof → Checker → Page → Checker → Type 0
FindsNext job.Proved proof old page new =
    (new.texts.now ≡ drop proof.text_len old.texts.now)
    × IsFound page (take proof.text_len old.texts.now) proof (old.taken + 1) new.found
FindsNext (job.Page place verdict) proof old page new = new.found ≡ job.Page place verdict
FindsNext (job.Certificate fault) proof old page new = new.found ≡ job.Certificate fault
FindsNext job.PageCount proof old page new = new.found ≡ job.PageCount
FindsNext job.Frame proof old page new = new.found ≡ job.Frame

-- a page by the proofs that are left: it takes the next, where there is one
abbrev pub TakesNext : List PageProof → Checker → Page → Checker → Type 0
TakesNext [] old page new = (new.proofs.now ≡ old.proofs.now) × (new.taken ≡ old.taken) × (new.found ≡ job.PageCount)
TakesNext (proof ∷ later) old page new =
    (new.proofs.now ≡ old.proofs.now) × (new.taken ≡ old.taken + 1) × FindsNext old.found proof old page new

abbrev pub proofs_left : Checker → List PageProof
proofs_left checker = drop checker.taken checker.proofs.now

abbrev pub TakesPage : Checker → Page → Checker → Type 0
TakesPage old page new = TakesNext (proofs_left old) old page new

-- what is found before the first page
abbrev pub BeginsWith : List ℕ → List PageProof → List ℕ → JobVerdict → Type 0
BeginsWith output proofs texts job.Proved = IsFramed output texts proofs
BeginsWith output proofs texts job.Frame = (others : List ℕ) → IsFramed output others proofs → ⊥
BeginsWith output proofs texts (job.Page place verdict) = ⊥
BeginsWith output proofs texts (job.Certificate fault) = ⊥
BeginsWith output proofs texts job.PageCount = ⊥

pub record IsNewChecker (output : List ℕ) (proofs : List PageProof) (checker : Checker) : Type 0 where
  pub proofs_are : checker.proofs.now ≡ proofs
  pub none_taken : checker.taken ≡ 0
  pub begins : BeginsWith output proofs checker.texts.now checker.found

-- the verdict after the last page, by the proofs that are left
abbrev pub answer : List PageProof → JobVerdict → JobVerdict
answer [] found = found
answer (proof ∷ proofs) found = job.PageCount
