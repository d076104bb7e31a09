-- What a check writes, and how it ends.
use Rattle.std.specs.Prelude.{◌⊎◌, ℕ, List, Option, Result, Ok, Err}
use Rattle.std.specs.Global.{Vec}
use Rattle.std.specs.Io.KnownBytes.{Appends, Keeps}
use Rattle.pcl_base.specs.declared.dpi.Dpi.{Dpi}
use Rattle.pcl_base.specs.declared.profile.Profile.TheVariants.{Stated}
use Rattle.pcl_base.specs.declared.refusal.Refusal.{Refusal}
use Rattle.pcl_page.specs.Delivering.{IsRefusal}
use Rattle.pcl_streams.specs.declared.fault.Fault.{Fault}
use Rattle.pcl_streams.specs.declared.fault.Fault.TheVariants.{Refused, Memory, ReadFault, TooLong, CertificateTooLong, WriteFault, NoSuchPage}
use Rattle.pcl_tool.specs.declared.job_verdict.CheckAnswer.{CheckAnswer}
use Rattle.pcl_tool.specs.declared.job_verdict.CheckAnswer.TheVariants as answer
use Rattle.pcl_streams.specs.JobFaults.{RefusedOrMemory}
use Rattle.pcl_tool.specs.JobVerdicts.{IsJobVerdict}
use Rattle.pcl_tool.specs.ImageVerdicts.{IsImagesAnswer}
use Rattle.pcl_streams.specs.Transfer.{AppendsFront}
use Rattle.pcl_files.specs.Files.{FileAct}
use Rattle.pcl_files.specs.WholeFiles.{IsFileRead}
use Rattle.pcl_request.specs.declared.request.CheckedFiles.{CheckedFiles}
use Rattle.pcl_request.specs.declared.request.Beside.{Beside}
use Rattle.pcl_request.specs.Requests.{performed}
use Rattle.pcl_request.specs.declared.request.Beside.TheVariants.{Input, Images}
use Rattle.pcl_request.specs.Resolutions.{IsSeenAt}
use Rattle.pcl_messages.specs.Verdicts.{answer_line_of}

-- the bytes of the three files, each of the one that is asked for by its name
pub record AreRead {F : Type 0} (acts : F → FileAct → F → Type 0) (files : F) (asked : CheckedFiles) (input output certificate : Vec ℕ)
    : Type 0 where
  pub input_is : IsFileRead acts files asked.input.now (Ok input)
  pub output_is : IsFileRead acts files asked.output.now (Ok output)
  pub certificate_is : IsFileRead acts files asked.certificate.now (Ok certificate)

-- the first of the three files that can't be read fails so
abbrev pub IsFileUnread : {F : Type 0} → (F → FileAct → F → Type 0) → F → CheckedFiles → Fault → Type 0
IsFileUnread acts files asked fault =
    IsFileRead acts files asked.input.now (Err fault)
    ⊎ ((input : Vec ℕ) × IsFileRead acts files asked.input.now (Ok input) × IsFileRead acts files asked.output.now (Err fault))
    ⊎ ((input output : Vec ℕ) × IsFileRead acts files asked.input.now (Ok input) × IsFileRead acts files asked.output.now (Ok output)
    × IsFileRead acts files asked.certificate.now (Err fault))

-- an answer is right of an input, or of images of its pages, of an output and a certificate
abbrev pub IsAnswerBeside : Beside → Dpi → (input output certificate : List ℕ) → CheckAnswer → Type 0
IsAnswerBeside Input dpi input output certificate answer.OtherImages = ⊥
IsAnswerBeside Input dpi input output certificate (answer.Job verdict) = IsJobVerdict dpi input output certificate verdict
IsAnswerBeside Images dpi images output certificate given = IsImagesAnswer dpi images output certificate given

-- no fault comes but the refusal of the job that is performed and out of memory
abbrev pub IsCheckedBeside : Beside → Dpi → (input output certificate : List ℕ) → Result CheckAnswer Fault → Type 0
IsCheckedBeside beside dpi input output certificate (Ok given) = IsAnswerBeside beside dpi input output certificate given
IsCheckedBeside beside dpi input output certificate (Err fault) = RefusedOrMemory (IsRefusal dpi (performed beside input output)) fault

-- the answer is right of the bytes of the three files
abbrev pub IsAnswer : {F : Type 0} → (F → FileAct → F → Type 0) → F → CheckedFiles → CheckAnswer → Type 0
IsAnswer acts files asked given =
    (input output certificate : Vec ℕ) × (dpi : Dpi) × AreRead acts files asked input output certificate
    × IsSeenAt asked.resolution Stated (performed asked.beside input.items output.items) dpi
    × IsAnswerBeside asked.beside dpi input.items output.items certificate.items given

-- the job that is performed is refused so, and the three files were read
abbrev pub IsCheckRefused : {F : Type 0} → (F → FileAct → F → Type 0) → F → CheckedFiles → Refusal → Type 0
IsCheckRefused acts files asked refusal =
    (input output certificate : Vec ℕ) × (dpi : Dpi) × AreRead acts files asked input output certificate
    × IsSeenAt asked.resolution Stated (performed asked.beside input.items output.items) dpi
    × IsRefusal dpi (performed asked.beside input.items output.items) refusal

-- the line of an answer is written; nothing where a fault came before, and a prefix of the line where its write failed
abbrev pub IsCheckRun : {F : Type 0} → (F → FileAct → F → Type 0) → F → CheckedFiles → (old new : Option (List ℕ))
    → Result CheckAnswer Fault → Type 0
IsCheckRun acts files asked old new (Ok given) = IsAnswer acts files asked given × Appends old new (answer_line_of asked.layout given)
IsCheckRun acts files asked old new (Err WriteFault) =
    (given : CheckAnswer) × IsAnswer acts files asked given × AppendsFront old new (answer_line_of asked.layout given)
IsCheckRun acts files asked old new (Err (Refused refusal)) = IsCheckRefused acts files asked refusal × Keeps old new
IsCheckRun acts files asked old new (Err ReadFault) = IsFileUnread acts files asked ReadFault × Keeps old new
IsCheckRun acts files asked old new (Err TooLong) = IsFileUnread acts files asked TooLong × Keeps old new
IsCheckRun acts files asked old new (Err Memory) = Keeps old new
IsCheckRun acts files asked old new (Err CertificateTooLong) = ⊥
IsCheckRun acts files asked old new (Err NoSuchPage) = ⊥
