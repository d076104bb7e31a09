-- What the checker of pages has found after the last page.
use Rattle.std.proofs.Common.{◌≡◌, ℕ, ◌+◌, List, [], ◌∷◌, ◌++◌, length, take, drop, refl, sym, append_assoc, arith}
use Rattle.pcl_tool.proofs.Names.{length-drop, length-take-le, take-append-drop, drop-drop, nil_from_length, Dpi, Page, Sheet, Shows, Hands, PageProof, JobVerdict, Verdict, Checker, IsAnswered, AreProved, IsFirstFailure, text_bytes, IsFound, FindsNext, TakesPage, proofs_left, answer}
use Rattle.pcl_cert.specs.declared.check.Verdict.TheVariants as verdicts
use Rattle.pcl_tool.specs.declared.job_verdict.JobVerdict.TheVariants as job

-- what is found wrong stays
wrong_stays : (found : JobVerdict) (proof : PageProof) (old new : Checker) (page : Page) → (found ≡ job.Proved → ⊥)
    → FindsNext found proof old page new → new.found ≡ found
wrong_stays found proof old new page wrong f = grind arith

-- a page that takes a proof
step : (proof : PageProof) (later : List PageProof) (old new : Checker) (page : Page) → proofs_left old ≡ proof ∷ later
    → TakesPage old page new → (proofs_left new ≡ later) × (new.taken ≡ old.taken + 1) × FindsNext old.found proof old page new
step proof later old new page e t =
    let next = rw e at t in
    (rw (next.1, next.0, ← drop-drop 1 old.taken old.proofs.now, e), next.1, next.2)

-- a page too many
past : (old new : Checker) (page : Page) → proofs_left old ≡ [] → TakesPage old page new
    → (proofs_left new ≡ []) × (new.found ≡ job.PageCount)
past old new page e t = let next = rw e at t in (rw (next.1, next.0) e, next.2)

module _ (dpi : Dpi) where
  -- nor do later pages change it
  pub stays : (sheets : List Sheet) (proofs : List PageProof) {found : JobVerdict} (old new : Checker)
      → (found ≡ job.Proved → ⊥) → old.found ≡ found → proofs_left old ≡ proofs → length sheets ≡ length proofs
      → Hands TakesPage dpi sheets old new → new.found ≡ found
  stays [] [] old new wrong f e same h = rw h f
  stays (sheet ∷ sheets) (proof ∷ proofs) {found} old new wrong f e same h =
      let t = step proof proofs old h.1 h.0 e h.3 in
      stays sheets proofs h.1 new wrong (wrong_stays found proof old h.1 h.0 wrong (simp f at t.2)) t.0 (omega arith) h.4
  stays sheets proofs old new wrong f e same h = absurd (omega (arith, same))

  -- ---- a page or a proof too many

  short_stays : (sheets : List Sheet) (old new : Checker) → proofs_left old ≡ [] → old.found ≡ job.PageCount
      → Hands TakesPage dpi sheets old new → answer (proofs_left new) new.found ≡ job.PageCount
  short_stays [] old new e f h = rw (h, e) f
  short_stays (sheet ∷ sheets) old new e f h =
      let t = past old h.1 h.0 e h.3 in short_stays sheets h.1 new t.0 t.1 h.4

  pub miscounted : (sheets : List Sheet) (proofs : List PageProof) (old new : Checker) → proofs_left old ≡ proofs
      → (length sheets ≡ length proofs → ⊥) → Hands TakesPage dpi sheets old new → answer (proofs_left new) new.found ≡ job.PageCount
  miscounted [] [] old new e other h = absurd (other refl)
  miscounted [] (proof ∷ proofs) old new e other h = rw (h, e)
  miscounted (sheet ∷ sheets) [] old new e other h =
      let t = past old h.1 h.0 e h.3 in short_stays sheets h.1 new t.0 t.1 h.4
  miscounted (sheet ∷ sheets) (proof ∷ proofs) old new e other h =
      let t = step proof proofs old h.1 h.0 e h.3 in
      miscounted sheets proofs h.1 new t.0 (λ same. other (omega (arith, same))) h.4

  -- ---- as many pages as proofs

  -- what is found of pages of which this many have come before
  abbrev pub IsOutcome : List Sheet → List ℕ → List PageProof → ℕ → JobVerdict → Type 0
  IsOutcome sheets texts proofs taken job.Proved = AreProved dpi sheets texts proofs
  IsOutcome sheets texts proofs taken (job.Page place verdict) =
      (number : ℕ) × (place ≡ taken + number) × IsFirstFailure dpi sheets texts proofs number verdict
  IsOutcome sheets texts proofs taken found = ⊥

  -- the first page that isn't proved
  fails_first : {sheets : List Sheet} {texts : List ℕ} {proofs : List PageProof} {number : ℕ} {verdict : Verdict}
      (pages_before : List Sheet) (sheet : Sheet) (pages_after : List Sheet) (proofs_before : List PageProof) (proof : PageProof)
      (proofs_after : List PageProof) (texts_before text texts_after : List ℕ) → sheets ≡ pages_before ++ sheet ∷ pages_after
      → proofs ≡ proofs_before ++ proof ∷ proofs_after → texts ≡ texts_before ++ (text ++ texts_after)
      → AreProved dpi pages_before texts_before proofs_before → number ≡ length pages_before + 1
      → IsAnswered dpi sheet text proof verdict → (verdict ≡ verdicts.Proved → ⊥) → IsFirstFailure dpi sheets texts proofs number verdict
  fails_first _ _ _ _ _ _ _ _ _ pages_are proofs_are texts_are before counted answered other = search

  module _ (sheet : Sheet) (sheets : List Sheet) (texts text rest : List ℕ) (proof : PageProof) (proofs : List PageProof) (taken : ℕ)
      (e : texts ≡ text ++ rest) where
    -- after a page that is proved
    after : (found : JobVerdict) → IsAnswered dpi sheet text proof verdicts.Proved → IsOutcome sheets rest proofs (taken + 1) found
        → IsOutcome (sheet ∷ sheets) texts (proof ∷ proofs) taken found
    after job.Proved p o = (omega (arith, o.0), (text, rest, p, e, o.1))
    after (job.Page place verdict) p o =
        let f = o.2 in (
          o.0 + 1,
          omega (arith, o.1),
          fails_first (sheet ∷ f.pages_before) f.sheet f.pages_after (proof ∷ f.proofs_before) f.proof f.proofs_after
              (text ++ f.texts_before) f.text f.texts_after (rw f.pages_are) (rw f.proofs_are) (rw (e, f.texts_are, append_assoc))
              (omega (arith, f.proved_before.0), (text, f.texts_before, p, refl, f.proved_before.1)) (omega (arith, f.counted))
              f.answered f.not_proved,
        )
    after found p o = absurd o

    -- by what is found of the first page: what becomes of the later ones where it is proved, and that it stays where it isn't
    at_page : (page : Page) (found last : JobVerdict) → IsFound page text proof (taken + 1) found → Shows dpi page sheet
        → length text ≡ proof.text_len → (found ≡ job.Proved → IsOutcome sheets rest proofs (taken + 1) last)
        → ((found ≡ job.Proved → ⊥) → last ≡ found) → IsOutcome (sheet ∷ sheets) texts (proof ∷ proofs) taken last
    at_page page job.Proved last is shows long follows keeps =
        after last (record { page = page; shows = shows; as_long = long; verdict_is = is }) (follows refl)
    at_page page (job.Page place verdict) last is shows long follows keeps =
        rw (keeps (λ (p : job.Page place verdict ≡ job.Proved). cc)) (
          1,
          is.0,
          fails_first [] sheet sheets [] proof proofs [] text rest refl refl e (refl, refl) refl
              (record { page = page; shows = shows; as_long = long; verdict_is = is.1 }) is.2,
        )
    at_page page found last is shows long follows keeps = absurd is

  -- no proof is left after as many pages
  pub none_left : (sheets : List Sheet) (proofs : List PageProof) (old new : Checker) → proofs_left old ≡ proofs
      → length sheets ≡ length proofs → Hands TakesPage dpi sheets old new → proofs_left new ≡ []
  none_left [] [] old new e same h = rw h e
  none_left (sheet ∷ sheets) (proof ∷ proofs) old new e same h =
      none_left sheets proofs h.1 new (step proof proofs old h.1 h.0 e h.3).0 (omega arith) h.4
  none_left sheets proofs old new e same h = absurd (omega (arith, same))

  pub outcome : (sheets : List Sheet) (texts : List ℕ) (proofs : List PageProof) (taken : ℕ) (old new : Checker)
      → old.found ≡ job.Proved → old.taken ≡ taken → old.texts.now ≡ texts → proofs_left old ≡ proofs → length texts ≡ text_bytes proofs
      → length sheets ≡ length proofs → Hands TakesPage dpi sheets old new → IsOutcome sheets texts proofs taken new.found
  outcome [] texts [] taken old new f n t e long same h = rw (h, f) (refl, nil_from_length texts long)
  outcome (sheet ∷ sheets) texts (proof ∷ proofs) taken old new f n t e long same h =
      let s = step proof proofs old h.1 h.0 e h.3 in
      let next = simp f at s.2 in
      let found : IsFound h.0 (take proof.text_len texts) proof (taken + 1) h.1.found = rw (← t, ← n) next.1 in
      let rest = drop proof.text_len texts in
      at_page sheet sheets texts (take proof.text_len texts) rest proof proofs taken (sym (take-append-drop proof.text_len texts)) h.0
      h.1.found new.found found h.2 (length-take-le proof.text_len texts (omega (arith, long)))
      (λ proved. outcome sheets rest proofs (taken + 1) h.1 new proved (rw (s.1, n)) (rw (next.0, t)) s.0
      (omega (arith, long, length-drop proof.text_len texts)) (omega arith) h.4)
      (λ wrong. stays sheets proofs h.1 new wrong refl s.0 (omega arith) h.4)
  outcome sheets texts proofs taken old new f n t e long same h = absurd (omega (arith, same))
