-- Written page texts are least, and so are those that the checker answers Proved.
use Rattle.std.proofs.Common.{ℕ, List, [], ◌∷◌, arith}
use Rattle.pcl_tool.proofs.Names.{Dpi, Sheet, PageProof, proved_least, IsWrittenPage, PrintEach, PrintsShortest, IsJobOf, least_job, AreProved, IsJobVerdict, IsLeastJobOf, IsLeastSameJob, IsWrittenJob}
use Rattle.pcl_tool.specs.declared.job_verdict.JobVerdict.TheVariants as job

written_texts : (dpi : Dpi) (sheets : List Sheet) (texts : List ℕ) → PrintEach IsWrittenPage dpi sheets texts
    → PrintEach PrintsShortest dpi sheets texts
written_texts dpi [] texts p = p
written_texts dpi (sheet ∷ sheets) texts p = (p.0, p.1, (p.2.0, p.2.1, (p.2.2.0, p.2.2.2.shortest)), p.3, written_texts dpi sheets p.1 p.4)

proved_texts : (dpi : Dpi) (sheets : List Sheet) (texts : List ℕ) (proofs : List PageProof) → AreProved dpi sheets texts proofs
    → PrintEach PrintsShortest dpi sheets texts
proved_texts dpi [] texts [] p = p.1
proved_texts dpi (sheet ∷ sheets) texts (proof ∷ proofs) p =
    let f = p.1 in
    let least = λ (other : List ℕ). proved_least f.2.page f.0 other proof.table proof.places f.2.verdict_is in
    let rest = proved_texts dpi sheets f.1 proofs (omega (arith, p.0), f.4) in
    (f.0, f.1, (f.2.page, f.2.shows, (f.2.verdict_is.0, least)), f.3, rest)
proved_texts dpi sheets texts proofs p = absurd (omega (arith, p.0))

pub written_least : (dpi : Dpi) (input output : List ℕ) → IsJobOf dpi input output → IsLeastSameJob dpi input output
written_least dpi input output w = record {
  pages = w.pages;
  meaning = w.meaning;
  again = w.again;
  accepted = w.accepted;
  same = w.alike;
  few = w.few;
  least = least_job w.texts (written_texts dpi w.pages w.texts w.print) w.spelled;
}

abbrev pub written_job : {dpi : Dpi} {input output : List ℕ} → IsJobOf dpi input output → IsWrittenJob dpi input output
written_job {dpi} {input} {output} w = record { is_least = written_least dpi input output w; written = w }

pub proved_least_job : (dpi : Dpi) (input output certificate : List ℕ) → IsJobVerdict dpi input output certificate job.Proved
    → IsLeastJobOf dpi input output
proved_least_job dpi input output certificate v = record {
  pages = v.0.pages;
  meaning = v.0.meaning;
  is_least = least_job v.1 (proved_texts dpi v.0.pages v.1 v.0.proofs v.3) v.2.spelled;
}
