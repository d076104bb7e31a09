-- The nearest of the kinds that were looked at.
use Rattle.std.proofs.Common.{◌≡◌, ◌<◌, ◌≤◌, ◌+◌, ℕ, List, All, MatchOption, Option, Some, None, IsTrue, take, get_or, arith, subst, sym, ◌∙◌}
use Rattle.std.proofs.lemmas.List.Elements.{All-more, All-weaker}
use Rattle.pcl_base.specs.declared.kind.Kind.{Kind, TheVariants.Truncated}
use Rattle.pcl_explain.specs.Kinds.{IsNearestKind, edits_to, may_be_kind}
use Rattle.pcl_explain.proofs.AllKinds.{kinds, of_each}

-- no kind of these is nearer than this, which is that of the nearest, or four where none is nearer than that
pub record IsNearestOf (word : List ℕ) (seen : List Kind) (nearest : Option Kind) (fewest : ℕ) : Type 0 where
  pub bound : All (λ kind. fewest ≤ edits_to kind word) seen
  pub reached : MatchOption nearest (fewest ≡ 4) (λ kind. (edits_to kind word ≡ fewest) × (fewest < 4))

-- it is no more than four
pub below_four : (word : List ℕ) (nearest : Option Kind) (fewest : ℕ)
    → MatchOption nearest (fewest ≡ 4) (λ kind. (edits_to kind word ≡ fewest) × (fewest < 4)) → fewest ≤ 4
below_four word None fewest reached = omega (arith, reached)
below_four word (Some kind) fewest reached = omega (arith, reached.1)

-- the next kind is nearer
pub nearer : {word : List ℕ} {nearest later : Option Kind} {fewest least index edits : ℕ}
    → IsNearestOf word (take index kinds) nearest fewest → index < 14 → edits ≡ edits_to (get_or kinds index Truncated) word
    → edits < fewest → later ≡ Some (get_or kinds index Truncated) → least ≡ edits → IsNearestOf word (take (index + 1) kinds) later least
nearer {word} {nearest} {later} {fewest} {least} {index} so_far small there less later_is least_is =
    let kind = get_or kinds index Truncated in
    let least_there : least ≡ edits_to kind word = least_is ∙ there in
    let below : least < fewest = omega (arith, less, least_is) in
    let in_reach = below_four word nearest fewest so_far.reached in
    let reached : (edits_to kind word ≡ least) × (least < 4) = (sym least_there, omega (arith, in_reach, below)) in
    record {
      bound = All-more (λ it. least ≤ edits_to it word) kinds index Truncated small
          (All-weaker (λ it. fewest ≤ edits_to it word) (λ it. least ≤ edits_to it word) (λ it above. omega (arith, above, below))
          (take index kinds) so_far.bound)
          (omega (arith, least_there));
      reached = subst (λ it. MatchOption it (least ≡ 4) (λ kind. (edits_to kind word ≡ least) × (least < 4))) (sym later_is) reached;
    }

-- it isn't
pub farther : {word : List ℕ} {nearest later : Option Kind} {fewest least index edits : ℕ}
    → IsNearestOf word (take index kinds) nearest fewest → index < 14 → edits ≡ edits_to (get_or kinds index Truncated) word
    → fewest ≤ edits → later ≡ nearest → least ≡ fewest → IsNearestOf word (take (index + 1) kinds) later least
farther {word} {nearest} {later} {fewest} {least} {index} so_far small there more later_is least_is =
    let same : IsNearestOf word (take (index + 1) kinds) nearest fewest =
    record {
      bound = All-more (λ it. fewest ≤ edits_to it word) kinds index Truncated small so_far.bound (omega (arith, there, more));
      reached = so_far.reached;
    } in
    subst (λ it. IsNearestOf word (take (index + 1) kinds) it least) (sym later_is)
    (subst (λ it. IsNearestOf word (take (index + 1) kinds) nearest it) (sym least_is) same)

-- all kinds are seen
pub all_seen : (word : List ℕ) (nearest : Option Kind) (fewest : ℕ) → IsTrue (may_be_kind word) → IsNearestOf word kinds nearest fewest
    → IsNearestKind word nearest
all_seen word None fewest may seen =
    λ _ kind. of_each (λ it. 4 ≤ edits_to it word)
    (All-weaker (λ it. fewest ≤ edits_to it word) (λ it. 4 ≤ edits_to it word) (λ it above. omega (arith, above, seen.reached)) kinds
    seen.bound) kind
all_seen word (Some kind) fewest may seen = (
  may,
  omega (arith, seen.reached.0, seen.reached.1),
  λ other. omega (arith, seen.reached.0, of_each (λ it. fewest ≤ edits_to it word) seen.bound other),
)
