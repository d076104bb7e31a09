-- A job whose pages are all answered Proved is.
use Rattle.std.proofs.Common.{◌≡◌, ℕ, List, [], ◌∷◌, ◌++◌, length, Ok, refl, sym, ap, ◌∙◌, append_assoc, arith}
use Rattle.pcl_tool.proofs.Names.{length-append, append_cancel_left, append_cancel_right, same_fronts, Dpi, Sheet, HasPages, frame_bytes, Verdict, Format, PageProof, certificate_at, certificate_again, pages_same, JobVerdict, AreProved, IsCertifiedJobOf, IsCertifiedBy, AreCompared, IsFirstFailure, IsJobVerdict, text_bytes}
use Rattle.pcl_cert.specs.declared.fault.CertFault.TheVariants.{Memory}
use Rattle.pcl_tool.specs.declared.job_verdict.JobVerdict.TheVariants as job
use Rattle.pcl_tool.proofs.SameVerdicts.{verdict_again}

-- ---- texts as long as their proofs say

pub proved_length : (dpi : Dpi) (sheets : List Sheet) (texts : List ℕ) (proofs : List PageProof) → AreProved dpi sheets texts proofs
    → length texts ≡ text_bytes proofs
proved_length dpi [] texts [] p = ap length p.1
proved_length dpi (sheet ∷ sheets) texts (proof ∷ proofs) p =
    omega (arith, proved_length dpi sheets p.1.1 proofs (omega (arith, p.0), p.1.4), simp length-append at (ap length p.1.3), p.1.2.as_long)
proved_length dpi sheets texts proofs p = absurd (omega (arith, p.0))

-- ---- texts that are cut at the same place

-- what stands after pages and texts that are proved
proved_after : {dpi : Dpi} (before : List Sheet) {sheet : Sheet} (after : List Sheet) (proofs_before : List PageProof) (proof : PageProof)
    (proofs_after : List PageProof) {texts : List ℕ} (texts_before : List ℕ) {rest : List ℕ}
    → AreProved dpi before texts_before proofs_before
    → texts ≡ texts_before ++ rest → AreProved dpi (before ++ sheet ∷ after) texts (proofs_before ++ proof ∷ proofs_after)
    → AreProved dpi (sheet ∷ after) rest (proof ∷ proofs_after)
proved_after [] after [] proof proofs_after texts_before none e p = rw (e, none.1) at p
proved_after (first ∷ before) after (one ∷ proofs_before) proof proofs_after texts_before {rest} b e p =
    let these = p.1 in
    let those = b.1 in
    let whole : these.0 ++ these.1 ≡ those.0 ++ (those.1 ++ rest) = rw (← these.3, e, those.3, append_assoc) in
    let cut = same_fronts these.0 those.0 (these.2.as_long ∙ sym those.2.as_long) whole in
    proved_after before after proofs_before proof proofs_after those.1 (omega (arith, b.0), those.4) cut.1 (omega (arith, p.0), these.4)
proved_after before after proofs_before proof proofs_after texts_before none e p = absurd (omega (arith, none.0))

none_fails : {dpi : Dpi} {pages : List Sheet} {texts : List ℕ} {proofs : List PageProof} {number : ℕ} {verdict : Verdict}
    → AreProved dpi pages texts proofs → IsFirstFailure dpi pages texts proofs number verdict → ⊥
none_fails {verdict} p f =
    let here = (proved_after f.pages_before f.pages_after f.proofs_before f.proof f.proofs_after f.texts_before f.proved_before
    f.texts_are (rw (f.pages_are, f.proofs_are) at p)).1 in
    let is = here.2 in
    let cut = same_fronts f.text here.0 (f.answered.as_long ∙ sym is.as_long) here.3 in
    f.not_proved (verdict_again f.proof.table f.proof.places verdict (pages_same is.shows f.answered.shows)
    (rw (← cut.0) at is.verdict_is) f.answered.verdict_is)

-- ---- the verdict

-- what is read of its certificate
pub read_again : {dpi : Dpi} {input output certificate : List ℕ} (i : IsCertifiedBy dpi input output certificate)
    → certificate_at dpi certificate ≡ Ok (i.format, i.proofs)
read_again {dpi} i = ap (certificate_at dpi) i.certificate_is ∙ certificate_again dpi i.format i.can_be_said

-- an input has one list of pages
abbrev pub OnePages : Type 0
OnePages = (dpi : Dpi) (input : List ℕ) (pages others : List Sheet) → HasPages dpi input pages → HasPages dpi input others → pages ≡ others

compared_same : OnePages → {dpi : Dpi} {input output certificate : List ℕ} (i : IsCertifiedBy dpi input output certificate)
    (compared : AreCompared dpi input certificate) → AreProved dpi compared.pages i.texts compared.proofs
compared_same one {dpi} {input} {output} {certificate} i compared =
    let read : (i.format, i.proofs) ≡ (compared.format, compared.proofs) = cc (read_again i, compared.certified) in
    let proofs : i.proofs ≡ compared.proofs = ap (λ (r : Format × List PageProof). r.1) read in
    rw (← proofs, ← one dpi input i.pages compared.pages i.meaning compared.meaning) i.proved

pub certified_proved : OnePages → (dpi : Dpi) (input output certificate : List ℕ) (verdict : JobVerdict)
    → IsCertifiedBy dpi input output certificate → IsJobVerdict dpi input output certificate verdict → verdict ≡ job.Proved
certified_proved one dpi input output certificate (job.Certificate Memory) i v = absurd v
certified_proved one dpi input output certificate (job.Certificate fault) i v = cc (read_again i, v.2)
certified_proved one dpi input output certificate job.PageCount i v = absurd (v.1 (compared_same one i v.0).0)
certified_proved one dpi input output certificate job.Frame i v =
    absurd (v.2 i.texts (record { spelled = i.spelled; as_long = proved_length _ _ i.texts _ (compared_same one i v.0) }))
certified_proved one dpi input output certificate (job.Page number verdict) i v =
    let same = append_cancel_right i.texts v.2 frame_bytes (append_cancel_left frame_bytes _ _ (sym i.spelled ∙ v.3.spelled)) in
    absurd (none_fails (rw same at (compared_same one i v.0)) v.4)
certified_proved one dpi input output certificate job.Proved i v = refl

pub written_certified : {dpi : Dpi} {format : Format} {input output certificate : List ℕ}
    → IsCertifiedJobOf dpi format input output certificate → IsCertifiedBy dpi input output certificate
written_certified w = search (w.job_is.written, w.certified)
