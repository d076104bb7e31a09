use Rattle.pcl_shrink.proofs.Looked.{unlike_first}
use Rattle.pcl_shrink.proofs.Everywhere.{kept_alone, kept_there, found_also}
use Rattle.pcl_shrink.proofs.looking.is_same.Goals as goal

pub returns-then-not-branch : goal.returns-then-not-branch
returns-then-not-branch c = λ job kept.
    unlike_first c.args.at.profile c.args.at.first c.args.at.also job c.args.candidate.now _ c.if-not-branch.true
    (c.in_ok-is_same_at.ensures job kept.0)

pub returns-in-Some-Some : goal.returns-in-Some-Some
returns-in-Some-Some c = λ job kept.
    found_also c.args.at.profile c.args.at.first c.args.at.also job c.args.candidate.now _ _ c.if-not-branch.false c.in-Some-Some.is-1
    (c.in_ok-is_same_at.ensures job kept.0)
    (c.is_same_at-in-Some-Some.ensures job (kept_there _ job _ c.in-Some-Some.is-1 c.in-Some-Some.is-0 kept.1))

pub returns-in_default-2 : goal.returns-in_default-2
returns-in_default-2 c = λ job kept.
    (rw c.if-not-branch.false at (c.in_ok-is_same_at.ensures job kept.0), kept_alone _ _ job _ _ c.in_default.is-0 kept.1)
