use Rattle.std.proofs.Common.{◌≡◌, ℕ, All, subst, take, arith}
use Rattle.std.proofs.lemmas.List.Elements.{All-more, All-nil}
use Rattle.pcl_base.specs.declared.kind.Kind.{Kind, TheVariants.Truncated}
use Rattle.pcl_explain.specs.Kinds.{IsKindName}
use Rattle.pcl_explain.proofs.AllKinds.{kinds, of_each}
use Rattle.pcl_explain.proofs.kinds.kind_named.Goals as goal

pub loop-kind-init : goal.loop-kind-init
loop-kind-init c = All-nil (λ (kind : Kind). IsKindName c.args.name.now kind → ⊥)

pub loop-kind-preserved : goal.loop-kind-preserved
loop-kind-preserved c =
    All-more (λ (kind : Kind). IsKindName c.args.name.now kind → ⊥) kinds c.loop-kind.kind-index Truncated
    (omega (arith, c.loop-kind-test.true)) c.loop-kind.invariant
    (λ named. let equal = c.eq_ignore_ascii_case.ensures.test.1 (rw c.name.ensures named) in
    let unequal = c.if-eq_ignore_ascii_case.false in cc)

pub returns : goal.returns
returns c =
    let all : c.loop-kind.kind-index ≡ 14 = omega (arith, c.loop-kind-test.false, c.loop-kind.auto.kind-index-end) in
    of_each (λ (kind : Kind). IsKindName c.args.name.now kind → ⊥)
    (subst (λ (count : ℕ). All (λ (kind : Kind). IsKindName c.args.name.now kind → ⊥) (take count kinds)) all c.loop-kind.invariant)
