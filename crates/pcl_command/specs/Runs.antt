-- What a run of the program reads and writes, and how what is asked for ends.
use Rattle.std.specs.Prelude.{◌≡◌, ℕ, List, ◌⊎◌, true, false, Option, Result, Ok, Err}
use Rattle.std.specs.Global.{Vec}
use Rattle.pcl_base.specs.Limits.{input_limit}
use Rattle.pcl_streams.specs.declared.fault.Fault.{Fault}
use Rattle.pcl_streams.specs.declared.fault.Fault.TheVariants.{ReadFault}
use Rattle.pcl_streams.specs.Transfer.{IsReadAll}
use Rattle.pcl_messages.specs.Failures.{FailsUnlessDone, HasFailedFile, IsComparisonFailure, IsFailureOf, IsUsageFailure, clash_line}
use Rattle.pcl_files.specs.Files.{FileAct, Opened, Unopened, Begun, Unbegun}
use Rattle.pcl_files.specs.WholeFiles.{IsSettled}
use Rattle.pcl_messages.specs.declared.failures.Failure.{Failure}
use Rattle.pcl_files.specs.declared.files.FileFault.{FileFault}
use Rattle.pcl_command.specs.Checks.{IsCheckRun}
use Rattle.pcl_command.specs.Comparisons.{IsCompareRun}
use Rattle.pcl_messages.specs.declared.compare_fault.CompareFault.{CompareFault}
use Rattle.pcl_messages.specs.declared.endings.Ending.{Ending}
use Rattle.pcl_messages.specs.declared.endings.Ending.TheVariants.{Done, Checked, Compared, Failed}
use Rattle.pcl_request.specs.Requests.{task_page}
use Rattle.pcl_request.specs.declared.request.Task.{Task}
use Rattle.pcl_request.specs.declared.request.Task.TheVariants.{ExplainKind}
use Rattle.pcl_request.specs.declared.request.Work.{Work}
use Rattle.pcl_request.specs.declared.request.Work.TheVariants as work
use Rattle.pcl_request.specs.declared.request.Resolution.{Resolution}
use Rattle.pcl_request.specs.declared.request.Run.{Run}
use Rattle.pcl_request.specs.declared.request.Source.{Source}
use Rattle.pcl_request.specs.declared.request.Source.TheVariants as source
use Rattle.pcl_request.specs.declared.request.Target.{Target}
use Rattle.pcl_request.specs.declared.request.Target.TheVariants as target
use Rattle.pcl_request.specs.declared.request.CheckedFiles.{CheckedFiles}
use Rattle.pcl_request.specs.declared.request.ComparedFiles.{ComparedFiles}
use Rattle.pcl_request.specs.declared.request.Request.{Request}
use Rattle.pcl_request.specs.declared.request.Request.TheVariants as asked
use Rattle.pcl_command.specs.Certifying.{HasCertified}
use Rattle.pcl_command.specs.Clashes.{SayIfClash}
use Rattle.pcl_command.specs.Tasks.{IsDoneSeen}
use Rattle.pcl_files.specs.World.{World}

-- The job of a task is read to its end. Explaining a kind reads nothing.
abbrev pub IsJobRead : Task → (given left : Option (List ℕ)) → Result (Vec ℕ) Fault → Type 0
IsJobRead (ExplainKind layout kind) given left (Ok job) = left ≡ given
IsJobRead (ExplainKind layout kind) given left (Err fault) = ⊥
IsJobRead task given left read = IsReadAll given left input_limit read

-- the task is done with the bytes of the job that a reader gives; or that can't be read, and nothing is written
abbrev pub HasDoneRead : {F : Type 0} → Task → Resolution → (before after : World F) → Result (Unit {0}) Fault → Type 0
HasDoneRead task resolution before after done =
    ((fault : Fault) × IsJobRead task before.given after.given (Err fault) × (after.written ≡ before.written) × (done ≡ Err fault))
    ⊎ ((job : Vec ℕ) × IsJobRead task before.given after.given (Ok job)
    × IsDoneSeen task resolution job.items before.written after.written done)

-- The same by where it writes to, and how that ended. A file is begun, holds what was written, and is settled, and nothing reaches the
-- writer; or it can't be begun, and then nothing was read.
abbrev pub HasWrittenTo : {F : Type 0} → (F → FileAct → F → Type 0) → Task → Resolution → Target → (before after : World F)
    → Result (Unit {0}) Failure → Type 0
HasWrittenTo acts task resolution target.StandardOutput before after ended =
    (done : Result (Unit {0}) Fault) × (after.files ≡ before.files)
    × HasDoneRead task resolution before after done × FailsUnlessDone (task_page task) done ended
HasWrittenTo {F} acts task resolution (target.File name) before after ended =
    (after.written ≡ before.written)
    × (((why : FileFault) × (failure : Failure) × acts before.files (Unbegun name.now why) after.files × (after.given ≡ before.given)
    × (ended ≡ Err failure) × HasFailedFile why failure)
    ⊎ ((begun : F) × (held holds : Option (List ℕ)) × (done settled : Result (Unit {0}) Fault)
    × acts before.files (Begun name.now held) begun
    × HasDoneRead task resolution (record before { written = held }) (record after { written = holds }) done
    × IsSettled acts name.now holds done begun after.files settled × FailsUnlessDone (task_page task) settled ended))

-- what is asked for is written, with the job that a reader gives
abbrev pub HasWritten : {F : Type 0} → (F → FileAct → F → Type 0) → Work → Resolution → Target → (before after : World F)
    → Result (Unit {0}) Failure → Type 0
HasWritten acts (work.Task task) resolution target before after ended = HasWrittenTo acts task resolution target before after ended
HasWritten acts (work.Certify certificate) resolution target before after ended =
    HasCertified acts certificate resolution target before after ended

-- A run is done, or failed so, by where its job comes from. A file that can't be opened is a fault of reading, and then no file was
-- made and nothing written. Nothing is read of the reader where the job is that of a file.
abbrev pub HasDone : {F : Type 0} → (F → FileAct → F → Type 0) → Run → Source → (before after : World F)
    → Result (Unit {0}) Failure → Type 0
HasDone acts run source.StandardInput before after ended = HasWritten acts run.work run.resolution run.target before after ended
HasDone acts run (source.File name) before after ended =
    (acts before.files (Unopened name.now) before.files × (after ≡ before) × FailsUnlessDone 0 (Err ReadFault) ended)
    ⊎ ((there left : Option (List ℕ)) × acts before.files (Opened name.now there) before.files × (after.given ≡ before.given)
    × HasWritten acts run.work run.resolution run.target (record before { given = there }) (record after { given = left }) ended)

-- how a run ends, by what it read and wrote
abbrev pub HasRun : {F : Type 0} → (F → FileAct → F → Type 0) → Run → (before after : World F) → Ending → Type 0
HasRun acts run before after Done = HasDone acts run run.source before after (Ok tt)
HasRun acts run before after (Failed failure) = HasDone acts run run.source before after (Err failure)
HasRun acts run before after other = ⊥

-- how a check ends: no file was made, and nothing was read of the reader
abbrev pub HasChecked : {F : Type 0} → (F → FileAct → F → Type 0) → CheckedFiles → (before after : World F) → Ending → Type 0
HasChecked acts asked before after (Checked answer) =
    (after.files ≡ before.files) × (after.given ≡ before.given)
    × IsCheckRun acts before.files asked before.written after.written (Ok answer)
HasChecked acts asked before after (Failed failure) =
    (fault : Fault) × (after.files ≡ before.files) × (after.given ≡ before.given)
    × IsCheckRun acts before.files asked before.written after.written (Err fault) × IsFailureOf fault 0 failure
HasChecked acts asked before after other = ⊥

-- how a comparison ends: nothing was read of the reader
abbrev pub HasCompared : {F : Type 0} → (F → FileAct → F → Type 0) → ComparedFiles → (before after : World F) → Ending → Type 0
HasCompared acts asked before after (Compared comparison) =
    (after.given ≡ before.given) × IsCompareRun acts asked before.files after.files before.written after.written (Ok comparison)
HasCompared acts asked before after (Failed failure) =
    (fault : CompareFault) × (after.given ≡ before.given)
    × IsCompareRun acts asked before.files after.files before.written after.written (Err fault)
    × IsComparisonFailure fault failure
HasCompared acts asked before after other = ⊥

-- how what was asked for ends, by what it did with files, read and wrote
abbrev pub HasCarriedOut : {F : Type 0} → (F → FileAct → F → Type 0) → Request → (before after : World F) → Ending → Type 0
HasCarriedOut acts (asked.Run run) before after ending = HasRun acts run before after ending
HasCarriedOut acts (asked.Check files_asked) before after ending = HasChecked acts files_asked before after ending
HasCarriedOut acts (asked.Compare files_asked) before after ending = HasCompared acts files_asked before after ending

-- where the file of a certificate or of an image is that of a job, nothing is done, and that is said
abbrev pub HasRefusedClash : {F : Type 0} → Request → (before after : World F) → Ending → Type 0
HasRefusedClash request before after (Failed failure) = (after ≡ before) × IsUsageFailure (clash_line request) failure
HasRefusedClash request before after other = ⊥

abbrev pub HasEnded : {F : Type 0} → (F → FileAct → F → Type 0) → Request → (before after : World F) → Ending → Type 0
HasEnded acts request before after ending =
    (SayIfClash acts before.files request true × HasRefusedClash request before after ending)
    ⊎ (SayIfClash acts before.files request false × HasCarriedOut acts request before after ending)
