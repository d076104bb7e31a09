use Rattle.pcl_same.specs.declared.asking.LastExit.TheVariants.{Counts}
use Rattle.pcl_shrink.proofs.Looked.{answered, refused}
use Rattle.pcl_shrink.proofs.looking.is_same_at.Goals as goal

pub returns-in-Ok : goal.returns-in-Ok
returns-in-Ok c = λ job kept.
    answered (c.one_asked_answer.ensures.by Counts c.args.profile) c.in-Ok.comparison c.is_same.result c.is_same.ensures
    (c.in-Ok.ensures job kept)

pub returns-in-Err-Refused : goal.returns-in-Err-Refused
returns-in-Err-Refused c = λ job kept.
    refused (c.one_asked_answer.ensures.by Counts c.args.profile) c.args.dpi job c.args.candidate.now c.in-Err-Refused.field-0-is
    (c.in-Err-Refused.ensures job kept)
