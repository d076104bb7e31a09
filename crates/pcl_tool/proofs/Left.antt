-- What is left after a place of a list.
use Rattle.std.proofs.Common.{◌≡◌, ℕ, zero, suc, ◌<◌, List, [], ◌∷◌, length, drop, refl, arith}
use Rattle.pcl_tool.proofs.Names.{PageProof, JobVerdict, answer}
use Rattle.pcl_tool.specs.declared.job_verdict.JobVerdict.TheVariants as job

pub answer_more : (k : ℕ) (proofs : List PageProof) (found : JobVerdict) → k < length proofs → answer (drop k proofs) found ≡ job.PageCount
answer_more zero (proof ∷ proofs) found lt = refl
answer_more (suc k) (proof ∷ proofs) found lt = answer_more k proofs found (omega arith)
answer_more k [] found lt = absurd (omega (arith, lt))
