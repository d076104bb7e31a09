use Rattle.pcl_shrink.proofs.Everywhere.{coarse_alone}
use Rattle.pcl_shrink.proofs.shrinking.shrink_everywhere_by.Goals as goal

pub returns-in-Err-Refused : goal.returns-in-Err-Refused
returns-in-Err-Refused g c =
    coarse_alone c.args.terms.profile c.args.terms.readers c.args.job.now c.in-Err-Refused.field-0-0 c.shrink_by.result
    (rw c.in-Err-Refused.field-0-is at c.in-Err-Refused.ensures) c.shrink_by.ensures
