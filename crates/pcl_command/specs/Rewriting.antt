-- A job of a batch that is written again.
use Rattle.std.specs.Prelude.{◌≡◌, ℕ, List, Option, Some, None, Result, Ok, Err}
use Rattle.std.specs.Global.{Vec}
use Rattle.pcl_base.specs.declared.dpi.Dpi.{Dpi}
use Rattle.pcl_base.specs.declared.fault.JobFault.{JobFault}
use Rattle.pcl_base.specs.declared.refusal.Refusal.{Refusal}
use Rattle.pcl_page.specs.Delivering.{IsRefusal, IsRefusalBy}
use Rattle.pcl_cert.specs.declared.format.Format.TheVariants.{One}
use Rattle.pcl_streams.specs.declared.fault.Fault.{Fault}
use Rattle.pcl_streams.specs.JobFaults.{RefusedOrMemory, fault_of}
use Rattle.pcl_tool.specs.Minimizing.{IsCertifiedJobOf}
use Rattle.pcl_messages.specs.Failures.{IsFailureOf}
use Rattle.pcl_messages.specs.declared.failures.Failure.{Failure}
use Rattle.pcl_request.specs.Requests.{widest_of}
use Rattle.pcl_request.specs.declared.batch.Rewriting.{Rewriting}
use Rattle.pcl_request.specs.declared.batch.Rewriting.TheVariants.{Shrink, ShrinkEverywhere, Certify}
use Rattle.pcl_shrink.specs.declared.candidate.Shrunk.{Shrunk}
use Rattle.pcl_command.specs.Profiles.{IsWrittenUnder, IsWrittenEverywhereUnder, IsRefusedEverywhereUnder}
use Rattle.pcl_request.specs.declared.batch.Rewritten.{Rewritten}

-- the smallest job that is found, alone, or the least raster job and its certificate
abbrev pub IsRewrittenTo : Rewriting → Dpi → (job again : List ℕ) → Option (Vec ℕ) → Type 0
IsRewrittenTo (Shrink how) dpi job again None = IsWrittenUnder how.readers how.profiles dpi job again
IsRewrittenTo (Shrink how) dpi job again (Some certificate) = ⊥
IsRewrittenTo (ShrinkEverywhere how) dpi job again None = IsWrittenEverywhereUnder how.readers how.profiles job again
IsRewrittenTo (ShrinkEverywhere how) dpi job again (Some certificate) = ⊥
IsRewrittenTo Certify dpi job again (Some certificate) = IsCertifiedJobOf dpi One job again certificate.items
IsRewrittenTo Certify dpi job again None = ⊥

-- a refusal is the one at the resolution; or at both
abbrev pub RefusesAgain : Rewriting → Dpi → List ℕ → Refusal → Type 0
RefusesAgain (ShrinkEverywhere how) dpi job refusal = IsRefusedEverywhereUnder how.profiles job refusal
RefusesAgain (Shrink how) dpi job refusal = IsRefusalBy (widest_of how.profiles) dpi job refusal
RefusesAgain Certify dpi job refusal = IsRefusal dpi job refusal

-- where it isn't written again it is refused so, or memory ran out
abbrev pub IsRewritten : Rewriting → Dpi → List ℕ → Result Rewritten Failure → Type 0
IsRewritten rewriting dpi job (Ok again) = IsRewrittenTo rewriting dpi job again.job.items again.certificate
IsRewritten rewriting dpi job (Err failure) =
    (fault : Fault) × RefusedOrMemory (RefusesAgain rewriting dpi job) fault × IsFailureOf fault 0 failure

-- ---- of the code

-- what was shrunk is written again without a certificate; or why it wasn't is what failed
abbrev pub IsShrunkAgain : Result Shrunk JobFault → Result Rewritten Failure → Type 0
IsShrunkAgain (Ok shrunk) (Ok again) = (again.job.items ≡ shrunk.job.items) × (again.certificate ≡ None)
IsShrunkAgain (Err why) (Err failure) = IsFailureOf (fault_of why) 0 failure
IsShrunkAgain shrunk again = ⊥
