-- What the two sinks hold that took the pages of the jobs.
use Rattle.std.proofs.Common.{◌≡◌, List, [], ◌∷◌, ◌++◌, length, drop, Option, Some, None, refl, sym, ap, subst, ◌∙◌, append_assoc, append-nil}
use Rattle.std.proofs.lemmas.Option.{none-some, same_Some}
use Rattle.pcl_same.proofs.Names.{length-append, drop-drop, Dpi, Sheet, Hands, Difference, KeptPage, KeepAll, KeepAllIfAny, KeepsMore, KeepsWithin, Compared, ComparesNext, FindAll}

-- ---- the first job

-- what is kept after pages
kept_on : (dpi : Dpi) (sheets : List Sheet) (old new : List KeptPage) → Hands KeepsMore dpi sheets old new
    → (more : List KeptPage) × (new ≡ old ++ more) × KeepAll dpi sheets more
kept_on dpi [] old new h = ([], h ∙ sym (append-nil old), tt)
kept_on dpi (sheet ∷ sheets) old new h =
    let kept = h.3.0 in
    let rest = kept_on dpi sheets h.1 new h.4 in
    (kept ∷ rest.0, cc (rest.1, h.3.1, append_assoc old (kept ∷ []) rest.0), (h.0, h.2, h.3.2, rest.2))

pub all_kept : (dpi : Dpi) (sheets : List Sheet) {old : List KeptPage} (new : List KeptPage) → old ≡ [] → Hands KeepsMore dpi sheets old new
    → KeepAll dpi sheets new
all_kept dpi sheets {old} new none h =
    let k = kept_on dpi sheets old new h in rw k.1 (simp none k.2)

-- what is kept after pages where all are, since none is once they took too many bytes
none_after : (dpi : Dpi) (sheets : List Sheet) (new : List KeptPage) → Hands KeepsWithin dpi sheets None (Some new) → ⊥
none_after dpi [] new h = none-some new (sym h)
none_after dpi (sheet ∷ sheets) new (page, None, shows, took, later) = none_after dpi sheets new later
none_after dpi (sheet ∷ sheets) new (page, Some mid, shows, took, later) = took

kept_within_on : (dpi : Dpi) (sheets : List Sheet) (old new : List KeptPage) → Hands KeepsWithin dpi sheets (Some old) (Some new)
    → (more : List KeptPage) × (new ≡ old ++ more) × KeepAll dpi sheets more
kept_within_on dpi [] old new h = ([], same_Some new old h ∙ sym (append-nil old), tt)
kept_within_on dpi (sheet ∷ sheets) old new (page, None, shows, took, later) = absurd (none_after dpi sheets new later)
kept_within_on dpi (sheet ∷ sheets) old new (page, Some mid, shows, took, later) =
    let rest = kept_within_on dpi sheets mid new later in
    (took.0 ∷ rest.0, cc (rest.1, took.1, append_assoc old (took.0 ∷ []) rest.0), (page, shows, took.2, rest.2))

pub all_kept_within : (dpi : Dpi) (sheets : List Sheet) {old : Option (List KeptPage)} (new : Option (List KeptPage)) → old ≡ Some []
    → Hands KeepsWithin dpi sheets old new → KeepAllIfAny dpi sheets new
all_kept_within dpi sheets {old} None none h = tt
all_kept_within dpi sheets {old} (Some new) none h =
    let k = kept_within_on dpi sheets [] new (subst (λ (o : Option (List KeptPage)). Hands KeepsWithin dpi sheets o (Some new)) none h) in
    rw k.1 k.2

-- ---- the second job

-- what is found after pages
record FindsMore (dpi : Dpi) (sheets : List Sheet) (old new : Compared) : Type 0 where
  more : List (Option Difference)
  found : new.found ≡ old.found ++ more
  find : FindAll dpi (drop (length old.found) old.kept) sheets more

finds_on : (dpi : Dpi) (sheets : List Sheet) (old new : Compared) → Hands ComparesNext dpi sheets old new → FindsMore dpi sheets old new
finds_on dpi [] old new h = record { more = []; found = ap (λ (c : Compared). c.found) h ∙ sym (append-nil old.found); find = tt }
finds_on dpi (sheet ∷ sheets) old new h =
    let took = h.3 in
    let rest = finds_on dpi sheets h.1 new h.4 in
    let left : drop (length h.1.found) h.1.kept ≡ drop 1 (drop (length old.found) old.kept) =
    rw (took.kept, took.found, length-append old.found (took.next ∷ []), drop-drop 1 (length old.found) old.kept) refl in
    record {
      more = took.next ∷ rest.more;
      found = cc (rest.found, took.found, append_assoc old.found (took.next ∷ []) rest.more);
      find = (h.0, h.2, took.is, subst (λ (kept : List KeptPage). FindAll dpi kept sheets rest.more) left rest.find);
    }

pub found_all : (dpi : Dpi) (sheets : List Sheet) {kept : List KeptPage} {old : Compared} (new : Compared) → old.kept ≡ kept
    → old.found ≡ [] → Hands ComparesNext dpi sheets old new → FindAll dpi kept sheets new.found
found_all dpi sheets {kept} {old} new k none h =
    let f = finds_on dpi sheets old new h in rw f.found (simp none (simp (none, k) at f.find))
