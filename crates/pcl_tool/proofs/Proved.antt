-- The page texts that a sink gathers, and what proves them.
use Rattle.pcl_cert.specs.declared.check.Verdict.TheVariants as verdicts
use Rattle.std.proofs.Common.{◌≡◌, ℕ, ◌+◌, ◌^◌, ◌<◌, List, [], ◌∷◌, ◌++◌, Option, Some, None, Ok, Err, length, refl, sym, ap, subst, ◌∙◌, append_assoc, arith}
use Rattle.pcl_tool.proofs.Names.{AllByRecursion, append-nil, length-append, Dpi, JobFault, Page, Sheet, Shows, Hands, IsRefusal, HasPages, frame_bytes, IsPlanOf, StepsAndTable, table_of_plan, IsWrittenPage, Format, One, Two, PageProof, IsProof, certificate_bytes, proof_in, HasLeastLists, AreLeastOf, table_proved, table_certified, PrintEach, job_fits, AreProved, IsAnswered, Fault, Output, fault_of, RefusedOrMemory, HasTaken, SoFar, IsOutput, IsProvedIn, Proves, TakesText}
use Rattle.pcl_base.specs.declared.fault.JobFault.TheVariants.{Refused, Memory}
use Rattle.pcl_base.specs.declared.profile.Profile.TheVariants.{Stated}
use Rattle.pcl_tool.specs.inner.WrittenJobs.{CertifiesNoPage}
use Rattle.pcl_meaning.proofs.WrittenJobs.{job_of_texts}
use Rattle.pcl_tool.proofs.LeastTexts.{written_job}

-- ---- one page

least_lists : (page : Page) (format : Format) (places : Option (List (List ℕ))) → HasLeastLists page format places → AreLeastOf page places
least_lists page format places has = grind arith

-- a text along a plan of its page
pub plan_proves : (format : Format) (page : Page) (text : List ℕ) (plan : StepsAndTable) (proof : PageProof)
    → IsPlanOf page plan → IsWrittenPage page text → HasLeastLists page format proof.places → proof.text_len ≡ length text
    → proof.table ≡ plan.table → Proves format page text proof
plan_proves format page text plan proof planned written has long same =
    let is : record { text_len = length text; table = plan.table; places = proof.places } ≡ proof = rw (← long, ← same) in
    record {
      text_len = sym long;
      can_be_said = subst (IsProof page.dpi format) is
          (table_certified page text plan.table format proof.places (table_of_plan planned) written.0 written.2 has);
      proved = rw same (table_proved page text plan.table proof.places (table_of_plan planned) written.0 written.2
          (least_lists page format proof.places has));
    }

-- what a certificate says in its format is said whole
pub proof_said : {dpi : Dpi} (format : Format) {proof : PageProof} → IsProof dpi format proof → proof_in format proof ≡ proof
proof_said One {proof} is = ap (λ (places : Option (List (List ℕ))). record proof { places = places }) (sym is.fits.lists)
proof_said Two is = refl

-- ---- all pages

-- what proves page texts of all sheets is appended to the certificate of some pages before
pub record ProofsGathered (dpi : Dpi) (format : Format) (sheets : List Sheet) (texts old new : List ℕ) : Type 0 where
  pub proofs : List PageProof
  pub after : (before : List PageProof) → length before + length proofs < 2 ^ 32
      → old ≡ certificate_bytes format before → new ≡ certificate_bytes format (before ++ proofs)
  pub can_be_said : AllByRecursion (IsProof dpi format) proofs
  pub proved : AreProved dpi sheets texts proofs

abbrev pub AreProvedIn : Dpi → Option Format → List Sheet → (texts old new : List ℕ) → Type 0
AreProvedIn dpi None sheets texts old new = Unit {0}
AreProvedIn dpi (Some format) sheets texts old new = ProofsGathered dpi format sheets texts old new

none_proved : (dpi : Dpi) (format : Option Format) (certificate : List ℕ) → AreProvedIn dpi format [] [] certificate certificate
none_proved dpi None certificate = tt
none_proved dpi (Some format) certificate =
    record { proofs = []; after = λ before few is. rw append-nil is; can_be_said = tt; proved = (refl, refl) }

one_more_proved : {dpi : Dpi} (format : Option Format) {page : Page} {sheet : Sheet} (sheets : List Sheet) (text texts : List ℕ)
    (old mid new : List ℕ) → Shows dpi page sheet → IsProvedIn format page text old mid → AreProvedIn dpi format sheets texts mid new
    → AreProvedIn dpi format (sheet ∷ sheets) (text ++ texts) old new
one_more_proved None sheets text texts old mid new shows one rest = tt
one_more_proved {dpi} (Some format) {page} {sheet} sheets text texts old mid new shows one rest = record {
  proofs = one.proof ∷ rest.proofs;
  after = λ before few is. rw (← append_assoc before (one.proof ∷ []) rest.proofs)
      (rest.after _ (omega (arith, length-append before (one.proof ∷ []))) (one.certificate before (omega arith) is));
  can_be_said = (rw shows.resolution at one.proves.can_be_said, rest.can_be_said);
  proved =
      let is : IsAnswered dpi sheet text one.proof verdicts.Proved =
      record { page = page; shows = shows; as_long = one.proves.text_len; verdict_is = one.proves.proved } in
      (omega (arith, rest.proved.0), (text, texts, is, refl, rest.proved.1));
}

-- page texts of all sheets, and where a certificate is wanted, what proves them
pub record Gathered (dpi : Dpi) (sheets : List Sheet) (old new : SoFar) : Type 0 where
  pub texts : List ℕ
  pub bytes : new.bytes ≡ old.bytes ++ texts
  pub print : PrintEach IsWrittenPage dpi sheets texts
  pub proved : AreProvedIn dpi old.format sheets texts old.certificate new.certificate

gathered : {dpi : Dpi} (sheets : List Sheet) {old new : SoFar} → Hands TakesText dpi sheets old new → Gathered dpi sheets old new
gathered {dpi} [] {old} h =
    rw h (record { texts = []; bytes = rw append-nil; print = refl; proved = none_proved dpi old.format old.certificate })
gathered {dpi} (sheet ∷ sheets) {old} {new} h =
    let rest = gathered sheets h.4 in
    let t = h.3 in
    record {
      texts = t.text ++ rest.texts;
      bytes = cc (rest.bytes, t.bytes, append_assoc old.bytes t.text rest.texts);
      print = (t.text, rest.texts, (h.0, h.2, t.written), refl, rest.print);
      proved = one_more_proved old.format sheets t.text rest.texts old.certificate h.1.certificate new.certificate h.2 t.proved
          (subst (λ (f : Option Format). AreProvedIn dpi f sheets rest.texts h.1.certificate new.certificate) t.format rest.proved);
    }

-- ---- a whole job

-- the job was refused or memory ran out, and so it is said
pub not_taken : {S : Type 0} (takes : S → Page → S → Type 0) (dpi : Dpi) (job : List ℕ) (begun : S) (fault : JobFault)
    → HasTaken takes dpi job begun (Err fault) → RefusedOrMemory (IsRefusal dpi job) (fault_of fault)
not_taken takes dpi job begun (Refused refusal) h = h
not_taken takes dpi job begun Memory h = tt

-- a refusal is the job's, and no fault comes but this and out of memory, whatever is wanted
pub not_written : (dpi : Dpi) (job : List ℕ) (format : Option Format) (fault : Fault) → RefusedOrMemory (IsRefusal dpi job) fault
    → IsOutput dpi job format (Err fault)
not_written dpi job format fault came = grind arith

pub written_output : {dpi : Dpi} {job : List ℕ} (format : Option Format) (output : Output) {pages : List Sheet} (old new : SoFar)
    → HasPages dpi job pages → old.format ≡ format → old.bytes ≡ frame_bytes → CertifiesNoPage format old.certificate
    → Hands TakesText dpi pages old new → output.job.items ≡ new.bytes ++ frame_bytes → output.certificate.items ≡ new.certificate
    → IsOutput dpi job format (Ok output)
unfolding job_of_texts
written_output {dpi} {job} None output {pages} old new meaning same opened none h closed whole =
    let g = gathered pages h in
    written_job (job_of_texts Stated dpi job old.bytes new.bytes output.job.items g.texts pages meaning opened g.print g.bytes closed)
written_output {dpi} {job} (Some format) output {pages} old new meaning same opened none h closed whole =
    let g = gathered pages h in
    let p : ProofsGathered dpi format pages g.texts old.certificate new.certificate =
    subst (λ (f : Option Format). AreProvedIn dpi f pages g.texts old.certificate new.certificate) same g.proved in
    let few : length p.proofs < 2 ^ 32 = omega (arith, p.proved.0, job_fits meaning) in
    record {
      job_is = written_job (job_of_texts Stated dpi job old.bytes new.bytes output.job.items
          g.texts pages meaning opened g.print g.bytes closed);
      certified = record {
        proofs = p.proofs;
        can_be_said = (few, p.can_be_said);
        spelled = whole ∙ p.after [] (omega (arith, few)) none;
        proved = p.proved;
      };
    }
