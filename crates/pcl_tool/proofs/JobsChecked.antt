-- What the checker of a job answers after the last page.
use Rattle.pcl_tool.proofs.Names.{cases_eq, Dpi, Sheet, Hands, HasPages, CertFault, Format, PageProof, FailsAs, certificate_at, JobVerdict, Checker, AreCompared, IsFramed, IsJobVerdict, BeginsWith, IsNewChecker, TakesPage, proofs_left, answer}
use Rattle.std.proofs.Common.{◌≡◌, ℕ, inl, inr, List, length, refl, arith, Ok}
use Rattle.pcl_cert.specs.declared.fault.CertFault.TheVariants.{Memory}
use Rattle.pcl_tool.specs.declared.job_verdict.JobVerdict.TheVariants as job
use Rattle.pcl_tool.proofs.Checkers.{stays, none_left, miscounted, IsOutcome, outcome}

-- what is found of as many pages as there are proofs
of_outcome : {dpi : Dpi} {input output certificate : List ℕ} (compared : AreCompared dpi input certificate) {texts : List ℕ}
    → length compared.pages ≡ length compared.proofs → IsFramed output texts compared.proofs → (found : JobVerdict)
    → IsOutcome dpi compared.pages texts compared.proofs 0 found → IsJobVerdict dpi input output certificate found
of_outcome compared {texts} same framed job.Proved o = (compared, texts, framed, o)
of_outcome compared {texts} same framed (job.Page place verdict) o =
    let number : place ≡ o.0 = omega (arith, o.1) in (compared, same, texts, framed, rw number o.2)
of_outcome compared same framed found o = absurd o

-- by what was found before the first page
of_begin : {dpi : Dpi} {input : List ℕ} (output : List ℕ) {certificate : List ℕ} (compared : AreCompared dpi input certificate)
    (begun new : Checker) (found : JobVerdict) → begun.found ≡ found → proofs_left begun ≡ compared.proofs → begun.taken ≡ 0
    → BeginsWith output compared.proofs begun.texts.now found → length compared.pages ≡ length compared.proofs
    → Hands TakesPage dpi compared.pages begun new → IsJobVerdict dpi input output certificate new.found
of_begin {dpi} output compared begun new job.Proved f e n b same h =
    of_outcome compared same b new.found (outcome dpi compared.pages _ compared.proofs 0 begun new f n refl e b.as_long same h)
of_begin {dpi} output compared begun new job.Frame f e n b same h =
    rw (stays dpi compared.pages compared.proofs begun new (λ (p : job.Frame ≡ job.Proved). cc) f e same h) (compared, same, b)
of_begin output compared begun new found f e n b same h = absurd b

-- the answer of a checker that has taken the pages of an accepted job
pub job_answered : {dpi : Dpi} {input output : List ℕ} (certificate : List ℕ) {format : Format} {proofs : List PageProof}
    {pages : List Sheet} {begun : Checker} (new : Checker) → HasPages dpi input pages
    → certificate_at dpi certificate ≡ Ok (format, proofs) → IsNewChecker output proofs begun
    → Hands TakesPage dpi pages begun new → IsJobVerdict dpi input output certificate (answer (proofs_left new) new.found)
job_answered {dpi} {input} {output} certificate {format} {proofs} {pages} {begun} new meaning certified b h =
    let compared : AreCompared dpi input certificate =
    record { pages = pages; meaning = meaning; format = format; proofs = proofs; certified = certified } in
    let left : proofs_left begun ≡ proofs = rw b.none_taken b.proofs_are in
    elim (cases_eq (length pages) (length proofs)) [
      | inl same ↦
          rw (none_left dpi pages proofs begun new left same h)
          (of_begin output compared begun new begun.found refl left b.none_taken b.begins same h)
      | inr other ↦ rw (miscounted dpi pages proofs begun new left other h) (compared, other)
    ]

-- the answer where the certificate is none
pub certificate_refused : {dpi : Dpi} {input : List ℕ} (output certificate : List ℕ) (fault : CertFault) {pages : List Sheet}
    → (fault ≡ Memory → ⊥) → HasPages dpi input pages → FailsAs fault (certificate_at dpi certificate)
    → IsJobVerdict dpi input output certificate (job.Certificate fault)
certificate_refused output certificate Memory other meaning e = absurd (other refl)
certificate_refused output certificate fault {pages} other meaning e = (pages, meaning, e)
