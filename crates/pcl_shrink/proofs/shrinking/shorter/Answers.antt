use Rattle.pcl_shrink.proofs.Names.{arith}
use Rattle.pcl_shrink.proofs.Looked.{says_same, says_unlike}
use Rattle.pcl_shrink.proofs.Shorter.{stays_shorter, stays_unlike, takes_proposal}
use Rattle.pcl_shrink.proofs.shrinking.shorter.Goals as goal

pub returns-then-len-best_len : goal.returns-then-len-best_len
returns-then-len-best_len c = λ kept.
    stays_shorter (omega (arith, c.len.ensures, c.best_len.ensures, c.if-len-best_len.true))

pub returns-then-not-branch : goal.returns-then-not-branch
returns-then-not-branch c = λ kept.
    stays_unlike (says_unlike _ _ _ _ _ c.if-not-branch.true c.deref.ensures.value (c.in_ok-is_same.ensures c.args.source.job.now kept))

pub returns : goal.returns
returns c = λ kept.
    takes_proposal (c.one_meaning.ensures.pages c.args.source.at.profile) (c.one_meaning.ensures.asks c.args.source.at.profile)
    (says_same _ _ _ _ _ c.if-not-branch.false c.deref.ensures.value (c.in_ok-is_same.ensures c.args.source.job.now kept))
    (omega (arith, c.len.ensures, c.best_len.ensures, c.if-len-best_len.false))
