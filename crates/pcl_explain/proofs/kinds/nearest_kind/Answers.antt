use Rattle.std.proofs.Common.{◌≡◌, ◌<◌, ℕ, get_or, take, arith, subst, IsTrue}
use Rattle.pcl_base.specs.declared.kind.Kind.TheVariants.{Truncated}
use Rattle.pcl_explain.specs.Kinds.{edits_to, may_be_kind}
use Rattle.pcl_explain.proofs.AllKinds.{kinds}
use Rattle.pcl_explain.proofs.Nearest.{IsNearestOf, nearer, farther, all_seen}
use Rattle.pcl_explain.proofs.kinds.nearest_kind.Goals.{then-edits-fewest, else-edits-fewest}
use Rattle.pcl_explain.proofs.kinds.nearest_kind.Goals as goal

pub loop-kind-preserved : goal.loop-kind-preserved
loop-kind-preserved c =
    let small : c.loop-kind.kind-index < 14 = omega (arith, c.loop-kind-test.true) in
    let is : c.in_ok-edits.edits ≡ edits_to (get_or kinds c.loop-kind.kind-index Truncated) c.args.word.now =
    rw c.as_bytes-letters.ensures.value at c.in_ok-edits.ensures in
    elim c.if-edits-fewest.branch [
      | then-edits-fewest w ↦ nearer c.loop-kind.invariant small is w.if-edits-fewest.true w.nearest-is w.fewest-is
      | else-edits-fewest w ↦ farther c.loop-kind.invariant small is w.if-edits-fewest.false w.nearest-is w.fewest-is
    ]

pub returns : goal.returns
returns c =
    let all : c.loop-kind.kind-index ≡ 14 = omega (arith, c.loop-kind-test.false, c.loop-kind.auto.kind-index-end) in
    let may : IsTrue (may_be_kind c.args.word.now) =
    rw c.as_bytes-letters.ensures.value at (rw c.may_be_kind.ensures at c.if-not-may_be_kind.false) in
    all_seen c.args.word.now c.loop-kind.nearest c.loop-kind.fewest may
    (subst (λ (count : ℕ). IsNearestOf c.args.word.now (take count kinds) c.loop-kind.nearest c.loop-kind.fewest) all c.loop-kind.invariant)
