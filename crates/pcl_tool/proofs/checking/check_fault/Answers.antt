use Rattle.pcl_tool.proofs.JobsChecked.{certificate_refused}
use Rattle.pcl_tool.proofs.checking.check_fault.Goals as goal

pub returns-in_ok-perform_watched-in_default : goal.returns-in_ok-perform_watched-in_default
returns-in_ok-perform_watched-in_default g c = λ output certificate fails.
    let h = c.in_ok-perform_watched-in_default.ensures in
    certificate_refused output certificate c.args.fault c.in_default.not-Memory h.1 fails
