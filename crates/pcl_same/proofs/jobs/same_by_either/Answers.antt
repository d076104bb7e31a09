use Rattle.pcl_same.proofs.ByDrivers.{one_refused, told_by_drivers}
use Rattle.pcl_same.proofs.jobs.same_by_either.Goals as goal

pub returns-in-Err-Refused : goal.returns-in-Err-Refused
returns-in-Err-Refused c =
    told_by_drivers c.args.dpi c.args.first.now c.args.second.now c.same_by-in-Err-Refused.result
    (one_refused c.in-Err-Refused.field-0-0 c.in-Err-Refused.field-0-1 (rw c.in-Err-Refused.field-0-is at c.in-Err-Refused.ensures))
    c.same_by-in-Err-Refused.ensures
