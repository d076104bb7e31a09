use Rattle.pcl_coders.proofs.Names.{sym}
use Rattle.pcl_coders.proofs.Ends.{first_end_by}
use Rattle.pcl_coders.proofs.fill.differing_len.Goals as goal

pub returns-else-old-len : goal.returns-else-old-len
returns-else-old-len c =
    first_end_by c.requires c.loop-len.invariant.within c.loop-len.invariant.same (λ some same. c.if-old-len.false (sym same))
