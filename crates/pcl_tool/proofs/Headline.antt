-- The claim holds of what is written with a certificate.
use Rattle.pcl_tool.proofs.Names.{ℕ, List, Dpi, Format, IsJobVerdict, IsCertifiedBy, IsCertifiedJobOf, TheClaim}
use Rattle.pcl_tool.specs.declared.job_verdict.JobVerdict.TheVariants.{Proved}
use Rattle.pcl_tool.proofs.CertifiedJobs.{OnePages, read_again, proved_length, certified_proved, written_certified}
use Rattle.pcl_tool.proofs.LeastTexts.{proved_least_job}

-- the proofs of a certificate prove the job that it certifies
answered : {dpi : Dpi} {input output certificate : List ℕ} → IsCertifiedBy dpi input output certificate
    → IsJobVerdict dpi input output certificate Proved
answered {dpi} i = (
  record { pages = i.pages; meaning = i.meaning; format = i.format; proofs = i.proofs; certified = read_again i },
  i.texts,
  record { spelled = i.spelled; as_long = proved_length dpi i.pages i.texts i.proofs i.proved },
  i.proved,
)

pub claimed : OnePages → (dpi : Dpi) (format : Format) {input output certificate : List ℕ}
    → IsCertifiedJobOf dpi format input output certificate → TheClaim dpi input output certificate
claimed one dpi format {input} {output} {certificate} w =
    let certified = written_certified w in
    let job = w.job_is.is_least in
    record {
      job = job;
      proved = answered certified;
      no_other = λ verdict v. certified_proved one dpi input output certificate verdict certified v;
      checked = λ other evidence v.
          let is = proved_least_job dpi input other evidence v in
          rw (← one dpi input is.pages job.pages is.meaning job.meaning) is.is_least;
    }
