use Rattle.pcl_tool.proofs.Filtered.{filtered_cert}
use Rattle.pcl_tool.proofs.minimizing.filter_cert.Goals as goal

pub returns : goal.returns
returns g c =
    let r = c.in_ok-job.ensures in
    filtered_cert _ _ _ _ _ (record { given = r.0; ended = r.1 }) (rw c.deref.ensures.value at c.in_ok-output.ensures)
    c.write_output.ensures
