-- Two jobs have one answer.
use Rattle.std.proofs.Common.{inl, inr, ◌≡◌, ◌≢◌, ℕ, zero, suc, ◌<◌, List, [], ◌∷◌, ◌++◌, length, Bool, Result, Ok, Err, refl, arith}
use Rattle.pcl_same.proofs.Names.{Profile, Stated, Drivers, Dpi, Refusal, AreAlike, AllAlike, HasPagesBy, IsRefusalBy, Sheet, PageComparison, Same, Difference, Size, Copies, Dot, First, Second, SameFault, Memory, Compare, AreReadBy, IsAnsweredByOne, IsComparedBy, IsFirstDot, DifferBy, DifferFirst}
use Rattle.pcl_same.specs.declared.comparison.PageComparison.TheVariants.{Page}
use Rattle.pcl_same.specs.declared.fault.SameFault.TheVariants.{Refused}

-- ---- one page

-- a page that is alike doesn't differ
alike_differs : {dpi : Dpi} (one other : Sheet) (difference : Difference) → AreAlike dpi one other → DifferBy dpi one other difference → ⊥
alike_differs one other (Size first second) is d = d.2 cc
alike_differs one other (Copies first second) is d = d.3 cc
alike_differs one other (Dot x y) is d = d.2.differs (is.dots x y d.2.across d.2.down)

-- two numbers, neither below the other
pub neither_below : (a b : ℕ) → (a < b → ⊥) → (b < a → ⊥) → a ≡ b
neither_below a b p q = omega arith

-- no row above the first dot has one that differs, nor has its row one to the left
one_dot : {width height : ℕ} {one other : ℕ → ℕ → Bool} {x y px py : ℕ} → IsFirstDot width height one other x y
    → IsFirstDot width height one other px py → Dot x y ≡ Dot px py
one_dot {x = x} {y} {px} {py} f g =
    let row : y ≡ py = neither_below y py (λ lt. f.differs (g.above x y f.across lt)) (λ lt. g.differs (f.above px py g.across lt)) in
    let column : x ≡ px = neither_below x px (λ lt. f.differs (rw row (g.left x lt))) (λ lt. g.differs (rw (← row) (f.left px lt))) in
    cc

one_difference : (dpi : Dpi) (one other : Sheet) (d e : Difference) → DifferBy dpi one other d → DifferBy dpi one other e → d ≡ e
one_difference dpi one other (Dot x y) (Dot px py) p q = one_dot p.2 q.2
one_difference dpi one other _ _ p q = grind arith

-- ---- lists

module _ {A D : Type 0} (alike : A → A → Type 0) (by : A → A → D → Type 0) where
  -- what stands at this place, counted from 0, differs so, and what is before it is alike
  abbrev pub IsAt : List A → List A → ℕ → D → Type 0
  IsAt [] ys n d = ⊥
  IsAt (x ∷ xs) [] n d = ⊥
  IsAt (x ∷ xs) (y ∷ ys) zero d = by x y d
  IsAt (x ∷ xs) (y ∷ ys) (suc n) d = alike x y × IsAt xs ys n d

  -- two lists differ at one place, where nothing that is alike differs
  pub one_place : ((x y : A) (d : D) → alike x y → by x y d → ⊥) → ((x y : A) (d e : D) → by x y d → by x y e → d ≡ e)
      → (xs ys : List A) (n m : ℕ) (d e : D) → IsAt xs ys n d → IsAt xs ys m e → (n ≡ m) × (d ≡ e)
  one_place strict unique (x ∷ xs) (y ∷ ys) zero zero d e p q = (refl, unique x y d e p q)
  one_place strict unique (x ∷ xs) (y ∷ ys) zero (suc m) d e p q = absurd (strict x y d q.0 p)
  one_place strict unique (x ∷ xs) (y ∷ ys) (suc n) zero d e p q = absurd (strict x y e p.0 q)
  one_place strict unique (x ∷ xs) (y ∷ ys) (suc n) (suc m) d e p q =
      let rest = one_place strict unique xs ys n m d e p.1 q.1 in (cc, rest.1)
  one_place strict unique _ _ n m d e p q = absurd p

-- ---- the pages in order

module _ (dpi : Dpi) where
  -- the pages of this place, counted from 0, differ so, and those before them are alike
  abbrev DifferAt : List Sheet → List Sheet → ℕ → Difference → Type 0
  DifferAt = IsAt (AreAlike dpi) (DifferBy dpi)

  differ_at : (before : List Sheet) (page : Sheet) (after before' : List Sheet) (other : Sheet) (after' : List Sheet)
      (d : Difference) → AllAlike dpi before before' → DifferBy dpi page other d
      → DifferAt (before ++ page ∷ after) (before' ++ other ∷ after') (length before) d
  differ_at [] page after [] other after' d a by = by
  differ_at (p ∷ before) page after (o ∷ before') other after' d a by = (a.0, differ_at before page after before' other after' d a.1 by)
  differ_at _ page after _ other after' d a by = absurd a

  first_at : {pages others : List Sheet} {number : ℕ} {d : Difference} → (f : DifferFirst dpi pages others number d)
      → DifferAt pages others (length f.pages_before) d
  first_at {d = d} f =
      rw (f.pages_are, f.others_are)
      (differ_at f.pages_before f.page f.pages_after f.others_before f.other f.others_after d f.alike_before f.differ)

  none_differs : (pages others : List Sheet) (n : ℕ) (d : Difference) → AllAlike dpi pages others → DifferAt pages others n d → ⊥
  none_differs (page ∷ pages) (other ∷ others) zero d a p = alike_differs page other d a.0 p
  none_differs (page ∷ pages) (other ∷ others) (suc n) d a p = none_differs pages others n d a.1 p.1
  none_differs _ _ n d a p = p

  pub alike_count : (pages others : List Sheet) → AllAlike dpi pages others → length pages ≡ length others
  alike_count [] [] a = refl
  alike_count (page ∷ pages) (other ∷ others) a = omega (arith, alike_count pages others a.1)
  alike_count _ _ a = absurd a

  pub one_comparison : (pages others : List Sheet) (a b : PageComparison) → Compare dpi pages others a → Compare dpi pages others b → a ≡ b
  one_comparison pages others Same (Page n d) p q = absurd (none_differs pages others (length q.1.pages_before) d p (first_at q.1))
  one_comparison pages others (Page n d) Same p q = absurd (none_differs pages others (length p.1.pages_before) d q (first_at p.1))
  one_comparison pages others (Page n d) (Page m e) p q =
      let one = one_place (AreAlike dpi) (DifferBy dpi) alike_differs (one_difference dpi) pages others (length p.1.pages_before)
      (length q.1.pages_before) d e (first_at p.1) (first_at q.1) in
      let number : n ≡ m = omega (arith, p.1.counted, q.1.counted, one.0) in
      cc
  one_comparison pages others _ _ p q = grind (arith, alike_count pages others)

-- ---- the jobs

-- by a profile a job has one meaning
pub record HasOneMeaning (profile : Profile) : Type 0 where
  pub pages : (dpi : Dpi) (job : List ℕ) (pages others : List Sheet) → HasPagesBy profile dpi job pages → HasPagesBy profile dpi job others
      → pages ≡ others
  pub refusal : (dpi : Dpi) (job : List ℕ) (refusal other : Refusal) → IsRefusalBy profile dpi job refusal
      → IsRefusalBy profile dpi job other → refusal ≡ other
  pub apart : (dpi : Dpi) (job : List ℕ) (pages : List Sheet) (refusal : Refusal) → HasPagesBy profile dpi job pages
      → IsRefusalBy profile dpi job refusal → ⊥

module _ {profile : Profile} (one : HasOneMeaning profile) (dpi : Dpi) (first second : List ℕ) where
  -- both jobs are accepted
  abbrev BothAccepted : Type 0
  BothAccepted = (pages : List Sheet) × HasPagesBy profile dpi first pages × (others : List Sheet) × HasPagesBy profile dpi second others

  -- the second is refused
  abbrev SecondRefused : Refusal → Type 0
  SecondRefused refusal = (pages : List Sheet) × HasPagesBy profile dpi first pages × IsRefusalBy profile dpi second refusal

  module _ {C : Type 0} (Is : Result C SameFault → Type 0) (both : (c : C) → Is (Ok c) → BothAccepted)
      (refused : (r : Refusal) → Is (Err (Refused First r)) → IsRefusalBy profile dpi first r)
      (later : (r : Refusal) → Is (Err (Refused Second r)) → SecondRefused r)
      (same : (a b : C) → Is (Ok a) → Is (Ok b) → a ≡ b) where
    -- two answers are one, where two comparisons are
    pub one_result : (a b : Result C SameFault) → Is a → Is b → a ≢ Err Memory → b ≢ Err Memory → a ≡ b
    one_result (Err Memory) b p q m n = absurd (m refl)
    one_result a (Err Memory) p q m n = absurd (n refl)
    one_result (Ok a) (Ok b) p q m n = cc (same a b p q)
    one_result (Ok a) (Err (Refused First r)) p q m n = absurd (one.apart dpi first (both a p).0 r (both a p).1 (refused r q))
    one_result (Ok a) (Err (Refused Second r)) p q m n = absurd (one.apart dpi second (both a p).2 r (both a p).3 (later r q).2)
    one_result (Err (Refused First r)) (Ok b) p q m n = absurd (one.apart dpi first (both b q).0 r (both b q).1 (refused r p))
    one_result (Err (Refused Second r)) (Ok b) p q m n = absurd (one.apart dpi second (both b q).2 r (both b q).3 (later r p).2)
    one_result (Err (Refused First r)) (Err (Refused First s)) p q m n = cc (one.refusal dpi first r s (refused r p) (refused s q))
    one_result (Err (Refused First r)) (Err (Refused Second s)) p q m n =
        absurd (one.apart dpi first (later s q).0 r (later s q).1 (refused r p))
    one_result (Err (Refused Second r)) (Err (Refused First s)) p q m n =
        absurd (one.apart dpi first (later r p).0 s (later r p).1 (refused s q))
    one_result (Err (Refused Second r)) (Err (Refused Second s)) p q m n = cc (one.refusal dpi second r s (later r p).2 (later s q).2)

pub same_answer_by : {profile : Profile} → HasOneMeaning profile → (dpi : Dpi) (first second : List ℕ)
    (a b : Result PageComparison SameFault)
    → IsComparedBy profile dpi first second a → IsComparedBy profile dpi first second b → a ≢ Err Memory → b ≢ Err Memory → a ≡ b
same_answer_by {profile} one dpi first second =
    one_result one dpi first second (IsComparedBy profile dpi first second) (λ c p. (p.pages, p.meaning, p.others, p.other_meaning))
    (λ r p. p) (λ r p. p) (λ a b p q. one_comparison dpi p.pages p.others a b p.compare
    (rw (one.pages dpi first p.pages q.pages p.meaning q.meaning)
    (rw (one.pages dpi second p.others q.others p.other_meaning q.other_meaning) q.compare)))

-- ---- the profile

-- two jobs are read by one profile
module _ (one : HasOneMeaning Stated) (dpi : Dpi) (first second : List ℕ) where
  apart_there : AreReadBy Drivers Stated dpi first second → AreReadBy Drivers Drivers dpi first second → ⊥
  apart_there both (inl refused) = one.apart dpi first both.0.0 refused.0 both.0.1 refused.1
  apart_there both (inr refused) = one.apart dpi second both.1.0 refused.0 both.1.1 refused.1

  module _ {C : Type 0} (IsBy : Profile → Result C SameFault → Type 0)
      (alone : (profile : Profile) (a b : Result C SameFault) → IsBy profile a → IsBy profile b → a ≢ Err Memory → b ≢ Err Memory → a ≡ b)
    where
      by_one : (widest profile other : Profile) (a b : Result C SameFault) → AreReadBy widest profile dpi first second
          → AreReadBy widest other dpi first second → IsBy profile a → IsBy other b → a ≢ Err Memory → b ≢ Err Memory → a ≡ b
      by_one widest Stated Stated a b r s p q m n = alone Stated a b p q m n
      by_one widest Drivers Drivers a b r s p q m n = alone Drivers a b p q m n
      by_one Drivers Stated Drivers a b r s p q m n = absurd (apart_there r s)
      by_one Drivers Drivers Stated a b r s p q m n = absurd (apart_there s r)
      by_one Stated Stated Drivers a b r s p q m n = absurd s
      by_one Stated Drivers Stated a b r s p q m n = absurd r

      pub one_told : (widest : Profile) (a b : Result C SameFault) → IsAnsweredByOne IsBy widest dpi first second a
          → IsAnsweredByOne IsBy widest dpi first second b → a ≢ Err Memory → b ≢ Err Memory → a ≡ b
      one_told widest (Err Memory) b p q m n = absurd (m refl)
      one_told widest a (Err Memory) p q m n = absurd (n refl)
      one_told widest (Ok a) (Ok b) p q m n = by_one widest p.0 q.0 (Ok a) (Ok b) p.1 q.1 p.2 q.2 m n
      one_told widest (Ok a) (Err (Refused other s)) p q m n =
          by_one widest p.0 widest (Ok a) (Err (Refused other s)) p.1 q.0 p.2 q.1 m n
      one_told widest (Err (Refused which r)) (Ok b) p q m n =
          by_one widest widest q.0 (Err (Refused which r)) (Ok b) p.0 q.1 p.1 q.2 m n
      one_told widest (Err (Refused which r)) (Err (Refused other s)) p q m n =
          by_one widest widest widest (Err (Refused which r)) (Err (Refused other s)) p.0 q.0 p.1 q.1 m n
