-- Two jobs have one answer, what they ask of the printer with it.
use Rattle.std.proofs.Common.{◌≡◌, ◌≢◌, ℕ, List, [], ◌∷◌, ◌++◌, length, Result, Err, refl, sym, ap, ◌∙◌, arith}
use Rattle.pcl_same.proofs.Names.{Profile, append_cancel_left, Dpi, AskedPage, Asks, HasAsksBy, AskedComparison, AskedDifference, AsksDifference, ExitCount, Exit, Lasting, ExitDifference, Setting, SettingDifference, SameFault, Memory, Compare, of_pages, CompareAsks, IsComparisonCounting, IsComparedAskedBy, as_counted, DifferAt, setting_of, order_of, IsFirstSetting, IsAskedBy, ExitsDifferBy, AsksDifferBy}
use Rattle.pcl_page.specs.Asks.{Exit as UniversalExit}
use Rattle.pcl_same.specs.declared.asking.LastExit.{LastExit}
use Rattle.pcl_same.specs.declared.comparison.AskedComparison.TheVariants as asked
use Rattle.pcl_same.specs.declared.comparison.AsksDifference.TheVariants.{Page, Separation}
use Rattle.pcl_same.specs.declared.comparison.AskedDifference.TheVariants.{Reset, Setting as BySetting}
use Rattle.pcl_same.proofs.OneAnswer.{neither_below, IsAt, one_place, HasOneMeaning, one_comparison, one_result}

-- ---- lists

module _ {A D : Type 0} (by : A → A → D → Type 0) (strict : (x y : A) (d : D) → x ≡ y → by x y d → ⊥) where
  is_at : (before : List A) (x : A) (xs : List A) (y : A) (ys : List A) (d : D) → by x y d
      → IsAt (λ one other. one ≡ other) by (before ++ x ∷ xs) (before ++ y ∷ ys) (length before) d
  is_at [] x xs y ys d differs = differs
  is_at (b ∷ before) x xs y ys d differs = (refl, is_at before x xs y ys d differs)

  -- two lists differ in one way
  one_number : ((x y : A) (d e : D) → by x y d → by x y e → d ≡ e) → (xs ys : List A) (n m : ℕ) (d e : D)
      → DifferAt (λ one other. by one other d) xs ys n → DifferAt (λ one other. by one other e) xs ys m → (n ≡ m) × (d ≡ e)
  one_number unique xs ys n m d e p q =
      let one = one_place (λ one other. one ≡ other) by strict unique xs ys (length p.before) (length q.before) d e
      (rw (p.ones_are, p.others_are) (is_at p.before p.one p.ones_after p.other p.others_after d p.differs))
      (rw (q.ones_are, q.others_are) (is_at q.before q.one q.ones_after q.other q.others_after e q.differs)) in
      (omega (arith, p.counted, q.counted, one.0), one.1)

  lists_differ : (xs ys : List A) (n : ℕ) (d : D) → DifferAt (λ one other. by one other d) xs ys n → xs ≢ ys
  lists_differ xs ys n d p = λ same.
      let rest = append_cancel_left p.before (p.one ∷ p.ones_after) (p.other ∷ p.others_after) cc in
      strict p.one p.other d (cc) p.differs

-- ---- a page

same_order : (one other : Setting) → order_of one ≡ order_of other → one ≡ other
same_order one other e = grind arith

one_setting : (one other : AskedPage) (d e : SettingDifference) → IsFirstSetting one other d → IsFirstSetting one other e → d ≡ e
one_setting one other d e p q =
    let setting : d.setting ≡ e.setting = same_order d.setting e.setting (neither_below (order_of d.setting) (order_of e.setting)
    (λ lt. p.differ (p.first ∙ q.same_before d.setting lt ∙ sym p.second))
    (λ lt. q.differ (q.first ∙ p.same_before e.setting lt ∙ sym q.second))) in
    let first : d.first ≡ e.first = p.first ∙ ap (λ (s : Setting). setting_of s one) setting ∙ sym q.first in
    let second : d.second ≡ e.second = p.second ∙ ap (λ (s : Setting). setting_of s other) setting ∙ sym q.second in
    λ i. record { setting = setting i; first = first i; second = second i }

settings_differ : (one other : AskedPage) (d : SettingDifference) → one ≡ other → IsFirstSetting one other d → ⊥
settings_differ one other d same p = p.differ (p.first ∙ ap (setting_of d.setting) same ∙ sym p.second)

one_asked_by : (one other : AskedPage) (d e : AskedDifference) → IsAskedBy one other d → IsAskedBy one other e → d ≡ e
one_asked_by one other Reset Reset p q = refl
one_asked_by one other (BySetting d) (BySetting e) p q = ap BySetting (one_setting one other d e p.1 q.1)
one_asked_by one other Reset (BySetting e) p q = absurd (p q.0)
one_asked_by one other (BySetting d) Reset p q = absurd (q p.0)

asked_differ : (one other : AskedPage) (d : AskedDifference) → one ≡ other → IsAskedBy one other d → ⊥
asked_differ one other Reset same p = p (ap (λ (page : AskedPage). page.start.is_first) same)
asked_differ one other (BySetting d) same p = settings_differ one other d same p.1

-- ---- a universal exit

one_exit : (one other : UniversalExit) (d e : ExitDifference) → ExitsDifferBy one other d → ExitsDifferBy one other e → d ≡ e
one_exit one other d e p q = grind arith

exits_differ : (one other : UniversalExit) (d : ExitDifference) → one ≡ other → ExitsDifferBy one other d → ⊥
exits_differ one other d same p = grind arith

-- ---- what is asked

module _ (asks others : Asks) where
  pages_unlike : (n : ℕ) (d : AskedDifference) → AsksDifferBy asks others (Page n d) → asks.pages ≢ others.pages
  pages_unlike = lists_differ IsAskedBy asked_differ asks.pages others.pages

  exits_unlike : (n : ℕ) (d : ExitDifference) → AsksDifferBy asks others (Exit n d) → asks.exits ≢ others.exits
  exits_unlike n d p = lists_differ ExitsDifferBy exits_differ asks.exits others.exits n d p.2

  one_difference : (d e : AsksDifference) → AsksDifferBy asks others d → AsksDifferBy asks others e → d ≡ e
  one_difference (Page n d) (Page m e) p q =
      let one = one_number IsAskedBy asked_differ one_asked_by asks.pages others.pages n m d e p q in cc
  one_difference (Page n d) e p q = absurd (pages_unlike n d p q.0)
  one_difference d (Page m e) p q = absurd (pages_unlike m e q p.0)
  one_difference (Exit n d) (Exit m e) p q =
      let one = one_number ExitsDifferBy exits_differ one_exit asks.exits others.exits n m d e p.2 q.2 in cc
  one_difference (Exit n d) Separation p q = absurd (exits_unlike n d p q.1)
  one_difference Separation (Exit m e) p q = absurd (exits_unlike m e q p.1)
  one_difference (Exit n d) Lasting p q = absurd (exits_unlike n d p q.1)
  one_difference Lasting (Exit m e) p q = absurd (exits_unlike m e q p.1)
  one_difference _ _ p q = grind arith

  asks_unlike : (d : AsksDifference) → AsksDifferBy asks others d → asks ≢ others
  asks_unlike (Page n d) p = λ same. pages_unlike n d p cc
  asks_unlike (ExitCount a b) p = λ same. p.3 cc
  asks_unlike (Exit n d) p = λ same. exits_unlike n d p cc
  asks_unlike Separation p = λ same. p.2 (ap (λ (a : Asks). a.separation) same)
  asks_unlike Lasting p = λ same. p.3 (ap (λ (a : Asks). a.lasts) same, ap (λ (a : Asks). a.whole) same)

  one_asked : (a b : AskedComparison) → of_pages a ≡ of_pages b → CompareAsks asks others a → CompareAsks asks others b → a ≡ b
  one_asked asked.Same (asked.Asks d) e p q = absurd (asks_unlike d q p)
  one_asked (asked.Asks d) asked.Same e p q = absurd (asks_unlike d p q)
  one_asked (asked.Asks d) (asked.Asks d') e p q = cc (one_difference d d' p q)
  one_asked _ _ e p q = grind arith

-- ---- the answer

-- by a profile a job asks for one thing
abbrev pub OneAsks : Profile → Type 0
OneAsks profile = (dpi : Dpi) (job : List ℕ) (asks others : Asks) → HasAsksBy profile dpi job asks → HasAsksBy profile dpi job others
    → asks ≡ others

same_asked : {last : LastExit} {profile : Profile} → HasOneMeaning profile → OneAsks profile → {dpi : Dpi}
    {first second : List ℕ} (a b : AskedComparison)
    → IsComparisonCounting last profile dpi first second a → IsComparisonCounting last profile dpi first second b → a ≡ b
same_asked {last} one one_asks {dpi} {first} {second} a b p q =
    let same = one.pages dpi second p.others q.others p.other_meaning q.other_meaning in
    let compare : Compare dpi p.pages p.others (of_pages b) =
    rw (one.pages dpi first p.pages q.pages p.meaning q.meaning, same) q.compare in
    let alike = one_asks dpi second p.other_asks q.other_asks p.other_asked q.other_asked in
    let compare_asks : CompareAsks (as_counted last p.asks) (as_counted last p.other_asks) b =
    rw (one_asks dpi first p.asks q.asks p.asked q.asked, alike) q.compare_asks in
    one_asked (as_counted last p.asks) (as_counted last p.other_asks) a b
    (one_comparison dpi p.pages p.others (of_pages a) (of_pages b) p.compare compare) p.compare_asks
    compare_asks

pub same_asked_answer_by : (last : LastExit) {profile : Profile} → HasOneMeaning profile → OneAsks profile →
    (dpi : Dpi) (first second : List ℕ)
    (a b : Result AskedComparison SameFault) → IsComparedAskedBy last profile dpi first second a
    → IsComparedAskedBy last profile dpi first second b
    → a ≢ Err Memory → b ≢ Err Memory → a ≡ b
same_asked_answer_by last {profile} one one_asks dpi first second =
    one_result one dpi first second (IsComparedAskedBy last profile dpi first second)
    (λ c p. (p.pages, p.meaning, p.others, p.other_meaning))
    (λ r p. p) (λ r p. p) (same_asked one one_asks)
