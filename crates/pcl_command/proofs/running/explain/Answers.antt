use Rattle.pcl_command.proofs.Names.{ExplainsIn, NeverRefuses}
use Rattle.pcl_command.proofs.Written.{written}
use Rattle.pcl_command.proofs.running.explain.Goals as goal

pub returns : goal.returns
returns g c =
    written (ExplainsIn c.args.layout c.args.profile c.args.dpi c.args.job.now) NeverRefuses _ _ _ c.in_ok-text.ensures
    (rw c.deref.ensures.value at c.write_all.ensures)
