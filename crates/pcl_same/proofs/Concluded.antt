-- What is concluded of what was found of the pages.
use Rattle.std.proofs.Common.{◌≡◌, ℕ, suc, ◌+◌, ◌<◌, List, [], ◌∷◌, ◌++◌, length, take, drop, get_or, Option, Some, None, refl, arith}
use Rattle.pcl_same.proofs.Names.{AllByRecursion, take_more, take-append-drop, length-take-le, drop-cons, Difference, IsAlike, IsFirstFound}

-- nothing is found of one page more
more_alike : (found : List (Option Difference)) {next : Option Difference} → AllByRecursion IsAlike found → IsAlike next
    → AllByRecursion IsAlike (found ++ next ∷ [])
more_alike [] all one = (one, tt)
more_alike (first ∷ found) all one = (all.0, more_alike found all.1 one)

pub next_alike : (found : List (Option Difference)) {n : ℕ} → n < length found → AllByRecursion IsAlike (take n found)
    → get_or found n None ≡ None → AllByRecursion IsAlike (take (n + 1) found)
next_alike found {n} lt all none = rw (take_more found n None lt) (more_alike (take n found) all none)

pub first_found : (found : List (Option Difference)) {n : ℕ} {difference : Difference} → n < length found
    → AllByRecursion IsAlike (take n found) → get_or found n None ≡ Some difference → IsFirstFound found (n + 1) difference
first_found found {n} {difference} lt all some = record {
  before = take n found;
  after = drop (suc n) found;
  found_are = rw (← some, ← drop-cons found n None lt, take-append-drop n found) refl;
  alike_before = all;
  counted = omega (arith, length-take-le n found (omega arith));
}
