use Rattle.std.proofs.Common.{arith, subst, sym}
use Rattle.pcl_base.specs.declared.profile.Profile.TheVariants.{Drivers}
use Rattle.pcl_printers.specs.declared.doubts.Readers.TheVariants.{Printers}
use Rattle.pcl_shrink.specs.Shrinking.{IsWrittenFor}
use Rattle.pcl_shrink.proofs.Written.{written_for}
use Rattle.pcl_library.proofs.making.shrink_answer.Goals as goal

pub returns-in-Ok : goal.returns-in-Ok
returns-in-Ok c =
    let answered = c.of_bytes.ensures in
    let written = written_for Drivers c.args.dpi c.args.job.now c.in-Ok.shrunk Printers c.in-Ok.ensures in
    record {
      performed = (λ three. omega (arith, answered.outcome, three), λ four. omega (arith, answered.outcome, four));
      no_page = λ two. omega (arith, answered.outcome, two);
      done = λ done. (answered.resolution, subst (IsWrittenFor Printers Drivers c.args.dpi c.args.job.now) (sym answered.made) written);
      refused = λ refused. absurd (omega (arith, answered.outcome, refused));
    }
