-- What is to be said of a run that failed, and its status.
use Rattle.std.specs.Prelude.{◌≡◌, ℕ, List, ◌++◌, Option, None, Some, Result, Ok, Err, codes, decimal}
use Rattle.pcl_streams.specs.declared.fault.Fault.{Fault}
use Rattle.pcl_messages.specs.Faults.{line_of, status_for}
use Rattle.pcl_messages.specs.ComparisonLines.{compare_line_of, compare_status_for, run_fault}
use Rattle.pcl_messages.specs.declared.compare_fault.CompareFault.{CompareFault}
use Rattle.pcl_streams.specs.declared.fault.Fault.TheVariants as run
use Rattle.pcl_files.specs.declared.files.FileFault.{FileFault}
use Rattle.pcl_files.specs.declared.files.FileFault.TheVariants.{Memory, Folder, Owner, Changed, Nameless, System}
use Rattle.pcl_messages.specs.declared.failures.Failure.{Failure}
use Rattle.pcl_messages.specs.declared.failures.Failure.TheVariants.{Said, NoMemory}
use Rattle.pcl_request.specs.declared.request.Request.{Request}
use Rattle.pcl_request.specs.declared.request.Request.TheVariants as asked

-- this line, this status, and this fault of the run, if it is one; unless memory ran out for the line
abbrev pub HasFailed : List ℕ → ℕ → Option Fault → Failure → Type 0
HasFailed said code cause (Said line status fault) = (line.items ≡ said) × (status ≡ code) × (fault ≡ cause)
HasFailed said code cause NoMemory = Unit {0}

-- a fault of a run that was asked for a page
abbrev pub IsFailureOf : Fault → ℕ → Failure → Type 0
IsFailureOf fault page failure = HasFailed (line_of fault page) (status_for fault) (Some fault) failure

-- two jobs aren't compared
abbrev pub IsComparisonFailure : CompareFault → Failure → Type 0
IsComparisonFailure fault failure = HasFailed (compare_line_of fault) (compare_status_for fault) (run_fault fault) failure

-- a usage fault
abbrev pub IsUsageFailure : List ℕ → Failure → Type 0
IsUsageFailure said failure = HasFailed said 2 None failure

-- a file that can't be written
abbrev pub IsUnwritten : List ℕ → Failure → Type 0
IsUnwritten said failure = HasFailed said 3 (Some run.WriteFault) failure

-- a file that can't be begun
abbrev pub HasFailedFile : FileFault → Failure → Type 0
HasFailedFile Memory failure = failure ≡ NoMemory
HasFailedFile Folder failure =
    IsUnwritten (codes "pclmin: cannot write: the file's folder takes no new file, which would be put in its place\n") failure
HasFailedFile Owner failure =
    IsUnwritten (codes "pclmin: cannot write: the file is another user's, and would become this one's\n") failure
HasFailedFile Changed failure = IsUnwritten (codes "pclmin: cannot write: another program has changed it meanwhile\n") failure
HasFailedFile Nameless failure =
    IsUnwritten (codes "pclmin: cannot write: a descriptor leads to this file: give the name of the file itself\n") failure
HasFailedFile System failure = IsUnwritten (codes "pclmin: cannot write\n") failure

-- what is said where some jobs of a batch failed
abbrev pub jobs_line : ℕ → ℕ → List ℕ
jobs_line failed jobs = codes "pclmin: " ++ decimal failed ++ codes " of " ++ decimal jobs ++ codes " jobs failed\n"

-- a run that was asked for a page fails by its fault, unless it is done
abbrev pub FailsUnlessDone : (page : ℕ) → Result (Unit {0}) Fault → Result (Unit {0}) Failure → Type 0
FailsUnlessDone page (Ok unit) (Ok ended) = Unit {0}
FailsUnlessDone page (Err fault) (Err failure) = IsFailureOf fault page failure
FailsUnlessDone page done ended = ⊥

-- what is said where a job or an image would be written to a terminal
abbrev pub terminal_line : List ℕ
terminal_line = codes "pclmin: nothing is written to a terminal: send standard output to a file, or give -o FILE\n"

-- what is said where the file of a certificate or of an image is that of a job
abbrev pub clash_line : Request → List ℕ
clash_line (asked.Compare files) = codes "pclmin: --image names the file of a job: give it a file of its own\n"
clash_line other = codes "pclmin: --cert names the file of a job: give it a file of its own\n"

-- what is said where an argument isn't text
abbrev pub arguments_line : List ℕ
arguments_line = codes "pclmin: the arguments aren't text\n"

-- the line for standard error
abbrev pub line_said : Failure → List ℕ
line_said (Said line status fault) = line.items
line_said NoMemory = line_of run.Memory 0

-- the fault of the run, if it is one
abbrev pub failed_fault : Failure → Option Fault
failed_fault (Said line status fault) = fault
failed_fault NoMemory = Some run.Memory

-- 3 where memory ran out
abbrev pub IsFailureStatus : Failure → ℕ → Type 0
IsFailureStatus (Said line code fault) status = status ≡ code
IsFailureStatus NoMemory status = status ≡ 3
