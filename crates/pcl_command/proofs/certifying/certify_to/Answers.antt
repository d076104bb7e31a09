use Rattle.std.proofs.Common.{Result, inl, inr, refl}
use Rattle.pcl_messages.specs.declared.failures.Failure.{Failure}
use Rattle.pcl_command.proofs.Left.{left_so}
use Rattle.pcl_command.specs.Certifying.{HasCertifiedTo}
use Rattle.pcl_files.specs.World.{world, world_found}
use Rattle.pcl_command.proofs.certifying.certify_to.Goals as goal
use Rattle.pcl_command.proofs.certifying.certify_to.Goals.{in-StandardOutput, in-File+in-Ok, in-File+in-Err}

pub returns : goal.returns
returns g c =
    let aside = g.F.Writer.Write.contents c.args.begun.writer in
    let before = world_found g.R.Read.remaining g.W.Write.contents c.args.surroundings in
    let Holds : g.row.F.Denot → g.row.R.Denot → g.row.W.Denot → Result (Unit {0}) Failure → Type 0 =
    λ files reader out ended. HasCertifiedTo g.F.JobFiles.acts c.args.begun.certificate aside c.args.run.resolution c.args.run.target
    before (world files (g.R.Read.remaining reader) (g.W.Write.contents out)) ended in
    elim c.match-run.branch [
      | in-StandardOutput w ↦ left_so Holds w.files-is w.reader-is w.out-is w.result-is
          (rw w.in-StandardOutput.is (_, _, _, w.certify_read-done.ensures, w.settle_aside-settled.ensures, w.unless_done.ensures))
      | in-File+in-Ok w ↦ left_so Holds w.files-is w.reader-is w.out-is w.result-is
          (rw w.in-File.is (
            refl,
            inr (
              _,
              _,
              _,
              _,
              _,
              _,
              w.in-Ok.ensures.begun,
              w.certify_read-done-in-Ok.ensures,
              w.settle_both-settled.ensures,
              w.unless_done-in-Ok.ensures,
            ),
          ))
      | in-File+in-Err w ↦ left_so Holds w.files-is w.reader-is w.out-is w.result-is
          (rw w.in-File.is (refl, inl (_, _, _, w.in-Err.ensures.unbegun, w.discard.ensures, refl, refl, w.of_file.ensures)))
    ]
