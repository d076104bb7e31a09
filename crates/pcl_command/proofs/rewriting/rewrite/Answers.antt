use Rattle.std.proofs.Common.{ℕ, List, Result, Ok, Err, subst, sym}
use Rattle.std.specs.Prelude.{Option}
use Rattle.std.specs.Global.{Vec}
use Rattle.pcl_base.specs.declared.fault.JobFault.TheVariants as fault
use Rattle.pcl_streams.specs.declared.fault.Fault.TheVariants as run
use Rattle.pcl_request.specs.declared.batch.Rewriting.TheVariants.{Shrink, ShrinkEverywhere}
use Rattle.pcl_request.specs.declared.profiles.Shrinking.{Shrinking}
use Rattle.pcl_messages.specs.declared.failures.Failure.{Failure}
use Rattle.pcl_command.proofs.Names.{Dpi, JobFault, IsShrunkUnder, IsShrunkEverywhereUnder, IsWrittenUnder, IsWrittenEverywhereUnder, Shrunk}
use Rattle.pcl_command.proofs.Written.{unshrunk, unshrunk_everywhere, written_under, written_everywhere_under}
use Rattle.pcl_request.specs.declared.batch.Rewritten.{Rewritten}
use Rattle.pcl_command.specs.Rewriting.{IsRewritten, IsRewrittenTo, IsShrunkAgain}
use Rattle.pcl_command.proofs.rewriting.rewrite.Goals as goal

shrunk_again : (how : Shrinking) (dpi : Dpi) (job : List ℕ) (shrunk : Result Shrunk JobFault)
    (again : Result Rewritten Failure) → IsShrunkEverywhereUnder how.readers how.profiles job shrunk → IsShrunkAgain shrunk again
    → IsRewritten (ShrinkEverywhere how) dpi job again
shrunk_again how dpi job (Ok shrunk) (Ok again) s a =
    let written = written_everywhere_under how.readers how.profiles job shrunk s in
    subst (λ (certificate : Option (Vec ℕ)). IsRewrittenTo (ShrinkEverywhere how) dpi job again.job.items certificate)
    (sym a.1)
    (subst (IsWrittenEverywhereUnder how.readers how.profiles job) (sym a.0) written)
shrunk_again how dpi job (Err (fault.Refused refusal)) (Err failure) s a =
    (run.Refused refusal, unshrunk_everywhere how.readers how.profiles job (fault.Refused refusal) s, a)
shrunk_again how dpi job (Err fault.Memory) (Err failure) s a = (run.Memory, tt, a)
shrunk_again how dpi job (Ok shrunk) (Err failure) s a = absurd a
shrunk_again how dpi job (Err why) (Ok again) s a = absurd a

shrunk_here : (how : Shrinking) (dpi : Dpi) (job : List ℕ) (shrunk : Result Shrunk JobFault)
    (again : Result Rewritten Failure) → IsShrunkUnder how.readers how.profiles dpi job shrunk → IsShrunkAgain shrunk again
    → IsRewritten (Shrink how) dpi job again
shrunk_here how dpi job (Ok shrunk) (Ok again) s a =
    let written = written_under how.readers how.profiles dpi job shrunk s in
    subst (λ (certificate : Option (Vec ℕ)). IsRewrittenTo (Shrink how) dpi job again.job.items certificate) (sym a.1)
    (subst (IsWrittenUnder how.readers how.profiles dpi job) (sym a.0) written)
shrunk_here how dpi job (Err (fault.Refused refusal)) (Err failure) s a =
    (run.Refused refusal, unshrunk how.readers how.profiles dpi job (fault.Refused refusal) s, a)
shrunk_here how dpi job (Err fault.Memory) (Err failure) s a = (run.Memory, tt, a)
shrunk_here how dpi job (Ok shrunk) (Err failure) s a = absurd a
shrunk_here how dpi job (Err why) (Ok again) s a = absurd a

pub returns-in-Shrink : goal.returns-in-Shrink
returns-in-Shrink c = rw c.in-Shrink.is
    (shrunk_here c.in-Shrink.how c.args.dpi c.args.job.now c.shrink_under-shrunk.result c.shrunk_again.result
    c.shrink_under-shrunk.ensures c.shrunk_again.ensures)

pub returns-in-ShrinkEverywhere : goal.returns-in-ShrinkEverywhere
returns-in-ShrinkEverywhere c = rw c.in-ShrinkEverywhere.is
    (shrunk_again c.in-ShrinkEverywhere.how c.args.dpi c.args.job.now
    c.shrink_everywhere_under-shrunk.result c.shrunk_again-in-ShrinkEverywhere.result c.shrink_everywhere_under-shrunk.ensures
    c.shrunk_again-in-ShrinkEverywhere.ensures)
