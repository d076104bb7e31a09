use Rattle.pcl_tool.proofs.JobsChecked.{job_answered}
use Rattle.pcl_tool.proofs.checking.check_pages.Goals as goal

pub returns : goal.returns
returns g c = λ certificate format e.
    let h = c.in_ok-checker.ensures in rw c.verdict.ensures (job_answered certificate _ h.1 e c.new-begun.ensures h.2)
