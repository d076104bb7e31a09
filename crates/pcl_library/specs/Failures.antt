-- Why a call fails, and what is said of it.
use Rattle.std.specs.Prelude.{ℕ, ◌<◌, Bool, true, false, List, codes}
use Rattle.pcl_base.specs.declared.fault.JobFault.{JobFault}
use Rattle.pcl_streams.specs.declared.fault.Fault.TheVariants as run
use Rattle.pcl_streams.specs.JobFaults.{fault_of}
use Rattle.pcl_same.specs.declared.fault.Which.{Which}
use Rattle.pcl_same.specs.declared.fault.Which.TheVariants.{First, Second}
use Rattle.pcl_same.specs.declared.fault.SameFault.{SameFault}
use Rattle.pcl_same.specs.declared.fault.SameFault.TheVariants as same
use Rattle.pcl_messages.specs.declared.compare_fault.CompareFault.TheVariants as compare
use Rattle.pcl_messages.specs.Faults.{line_of}
use Rattle.pcl_messages.specs.ComparisonLines.{compare_line_of}
use Rattle.pcl_library.specs.declared.failure.Argument.{Argument}
use Rattle.pcl_library.specs.declared.failure.Argument.TheVariants.{Resolution, Pages, Scale, Format}
use Rattle.pcl_library.specs.declared.failure.CallFailure.{CallFailure}
use Rattle.pcl_library.specs.declared.failure.CallFailure.TheVariants.{Wrong, Run, OneRefused}

abbrev pub failure_of_job : JobFault → CallFailure
failure_of_job fault = Run (fault_of fault)

abbrev pub failure_of_jobs : SameFault → CallFailure
failure_of_jobs (same.Refused which refusal) = OneRefused which refusal
failure_of_jobs same.Memory = Run run.Memory

-- the number of a failure, as lib/pclmin.h has it; 0 is that of a call that is done
abbrev pub outcome_of : CallFailure → ℕ
outcome_of (Run (run.Refused refusal)) = 1
outcome_of (OneRefused which refusal) = 1
outcome_of (Run run.NoSuchPage) = 2
outcome_of (Wrong argument) = 3
outcome_of (Run run.TooLong) = 4
outcome_of (Run other) = 5

-- the call fails before a job is performed, or memory runs out
abbrev pub IsUnperformed : CallFailure → Type 0
IsUnperformed failure = 2 < outcome_of failure

-- the number of one of two jobs
abbrev pub job_number : Which → ℕ
job_number First = 1
job_number Second = 2

-- what is said of an argument that has a value which the call doesn't take
abbrev pub argument_line : Argument → List ℕ
argument_line Resolution = codes "pclmin: the resolution is 300 or 600, or 0 for the first at which the job is accepted\n"
argument_line Pages = codes "pclmin: pages are 1 to 256, the last no earlier than the first, or 0 and 0 for all\n"
argument_line Scale = codes "pclmin: a scale is 1 to 32\n"
argument_line Format = codes "pclmin: the format of a certificate is 1 or 2, or 0 for none\n"

-- what is said of a failure of a call that was asked for pages up to this one
abbrev pub failure_line : CallFailure → ℕ → List ℕ
failure_line (Wrong argument) page = argument_line argument
failure_line (Run fault) page = line_of fault page
failure_line (OneRefused which refusal) page = compare_line_of (compare.Refused which refusal)

-- it is said without memory
abbrev pub is_said_at_once : CallFailure → Bool
is_said_at_once (Wrong argument) = true
is_said_at_once (Run run.TooLong) = true
is_said_at_once other = false
