-- What an answer tells.
use Rattle.std.specs.Prelude.{◌≡◌, ◌≢◌, ◌⊎◌, ◌↔◌, ℕ, ◌≤◌, Bool, false, List, [], length, IsTrue, Option, Some, None}
use Rattle.pcl_base.specs.declared.dpi.Dpi.{Dpi}
use Rattle.pcl_base.specs.declared.profile.Profile.{Profile}
use Rattle.pcl_base.specs.declared.profile.Profile.TheVariants.{Drivers}
use Rattle.pcl_base.specs.declared.refusal.Refusal.{Refusal}
use Rattle.pcl_base.specs.Dpi.{dots_per_inch}
use Rattle.pcl_base.specs.Kind.{kind_number}
use Rattle.pcl_page.specs.Situation.{Sheet}
use Rattle.pcl_page.specs.Jobs.{HasPagesBy}
use Rattle.pcl_page.specs.Accepting.{IsAccepted, IsFirstAccepted}
use Rattle.pcl_page.specs.Delivering.{IsRefusalBy}
use Rattle.pcl_cert.specs.declared.format.Format.{Format}
use Rattle.pcl_streams.specs.declared.fault.Fault.TheVariants as run
use Rattle.pcl_tool.specs.declared.job_verdict.JobVerdict.TheVariants.{Proved}
use Rattle.pcl_tool.specs.declared.job_verdict.CheckAnswer.{CheckAnswer}
use Rattle.pcl_tool.specs.declared.job_verdict.CheckAnswer.TheVariants as checked
use Rattle.pcl_preview.specs.declared.form.ImageForm.{ImageForm}
use Rattle.pcl_preview.specs.declared.form.ImageForm.TheVariants.{Greymap}
use Rattle.pcl_preview.specs.declared.form.Scale.{Scale}
use Rattle.pcl_preview.specs.declared.page_images.PageChoice.{PageChoice}
use Rattle.pcl_preview.specs.PageImages.{AreImagesIn, LacksPage}
use Rattle.pcl_tool.specs.Minimizing.{IsCertifiedJobOf, input_limit}
use Rattle.pcl_tool.specs.Writing.{IsWrittenJob}
use Rattle.pcl_same.specs.declared.comparison.AskedComparison.{AskedComparison}
use Rattle.pcl_same.specs.declared.comparison.AskedComparison.TheVariants as comparisons
use Rattle.pcl_request.specs.declared.request.Beside.{Beside}
use Rattle.pcl_request.specs.declared.request.Layout.TheVariants.{Text}
use Rattle.pcl_command.specs.Checks.{IsAnswerBeside}
use Rattle.pcl_command.specs.Comparisons.{IsComparisonFor}
use Rattle.pcl_printers.specs.declared.doubts.Readers.TheVariants.{Printers}
use Rattle.pcl_shrink.specs.Shrinking.{IsWrittenFor, IsWrittenEverywhere, IsRefusedEverywhere}
use Rattle.pcl_explain.specs.Findings.{Explains}
use Rattle.pcl_same.specs.declared.fault.Which.{Which}
use Rattle.pcl_same.specs.declared.fault.Which.TheVariants.{First, Second}
use Rattle.pcl_messages.specs.declared.compare_fault.CompareFault.TheVariants as compare
use Rattle.pcl_messages.specs.Faults.{line_of}
use Rattle.pcl_messages.specs.Verdicts.{answer_line_of}
use Rattle.pcl_messages.specs.ComparisonLines.{comparison_line_of, compare_line_of}
use Rattle.pcl_library.specs.Arguments.{IsSeen, AreSeen, IsChoiceFor, IsScaleFor, IsFormatFor, AreArgumentsTaken}
use Rattle.pcl_library.specs.Failures.{argument_line, failure_line, outcome_of, job_number}
use Rattle.pcl_library.specs.Lines.{c_string}
use Rattle.pcl_library.specs.declared.answer.Answer.{Answer}
use Rattle.pcl_library.specs.declared.failure.Argument.{Argument}
use Rattle.pcl_library.specs.declared.failure.CallFailure.{CallFailure}
use Rattle.pcl_library.specs.declared.failure.CallFailure.TheVariants.{Wrong, Run, OneRefused}

-- ---- failures

-- an answer of no bytes, no line and no numbers but how the call ended and at which resolution
pub record SaysNothing (answer : Answer) : Type 0 where
  pub made : answer.made.now ≡ []
  pub certificate : answer.certificate.now ≡ []
  pub line : answer.line.now ≡ []
  pub place : answer.place ≡ 0
  pub pages : answer.pages ≡ 0
  pub kind : answer.kind ≡ 0
  pub job : answer.refused_job ≡ 0
  pub holds : answer.holds ≡ false

-- memory ran out, and nothing else is said
pub record IsOutOfMemory (answer : Answer) : Type 0 where
  pub ended : answer.outcome ≡ 5
  pub nothing : SaysNothing answer

-- a refusal by the number of its kind, by its place, by the number of the job, and by a line
pub record TellsOf (job : Which) (line : List ℕ) (refusal : Refusal) (answer : Answer) : Type 0 where
  pub refused : answer.outcome ≡ 1
  pub which : answer.refused_job ≡ job_number job
  pub kind : answer.kind ≡ kind_number refusal.kind
  pub place : answer.place ≡ refusal.at
  pub said : answer.line.now ≡ line

-- the refusal of a job, as the program says it
abbrev pub TellsRefusal : Refusal → Answer → Type 0
TellsRefusal refusal answer = TellsOf First (c_string (line_of (run.Refused refusal) 0)) refusal answer

-- the refusal of one of two jobs, as the program says it
abbrev pub TellsRefusalOf : Which → Refusal → Answer → Type 0
TellsRefusalOf which refusal answer = TellsOf which (c_string (compare_line_of (compare.Refused which refusal))) refusal answer

-- what an answer tells of a failure by this line
abbrev pub TellsBy : List ℕ → CallFailure → Answer → Type 0
TellsBy line (Run (run.Refused refusal)) answer = TellsOf First line refusal answer
TellsBy line (OneRefused which refusal) answer = TellsOf which line refusal answer
TellsBy line failure answer = (answer.outcome ≡ outcome_of failure) × (answer.line.now ≡ line)

-- what it tells of a failure of a call that was asked for pages up to this one, or that memory ran out for that; an argument that is
-- wrong or too long is always reported
abbrev pub TellsFailure : CallFailure → ℕ → Answer → Type 0
TellsFailure (Run run.Memory) page answer = IsOutOfMemory answer
TellsFailure (Run run.TooLong) page answer = TellsBy (c_string (line_of run.TooLong page)) (Run run.TooLong) answer
TellsFailure (Wrong argument) page answer = TellsBy (c_string (argument_line argument)) (Wrong argument) answer
TellsFailure failure page answer = TellsBy (c_string (failure_line failure page)) failure answer ⊎ IsOutOfMemory answer

-- a number that is wrong, and an input that is too long, are always said
pub record TellsArguments (answer : Answer) : Type 0 where
  pub wrong : answer.outcome ≡ 3 → (argument : Argument) × (answer.line.now ≡ c_string (argument_line argument))
  pub too_long : answer.outcome ≡ 4 → answer.line.now ≡ c_string (line_of run.TooLong 0)

-- ---- calls on one job

-- what an answer tells at a resolution of a job that is read by a profile: of a call that is done this holds, a refusal is the job's, and
-- no argument is wrong; no page is missing, since none is asked for
pub record AnswersAt (profile : Profile) (dpi : Dpi) (job : List ℕ) (Done : Answer → Type 0) (answer : Answer) : Type 0 where
  pub performed : AreArgumentsTaken answer.outcome
  pub no_page : answer.outcome ≢ 2
  pub done : answer.outcome ≡ 0 → (answer.resolution ≡ dots_per_inch dpi) × Done answer
  pub refused : answer.outcome ≡ 1 → (refusal : Refusal) × IsRefusalBy profile dpi job refusal × TellsRefusal refusal answer

-- the same at the resolution at which the job is seen by a number
pub record Answers (profile : Profile) (number : ℕ) (job : List ℕ) (Done : Dpi → Answer → Type 0) (answer : Answer) : Type 0 where
  pub arguments : TellsArguments answer
  pub no_page : answer.outcome ≢ 2
  pub done : answer.outcome ≡ 0 → (dpi : Dpi) × IsSeen profile number job dpi × (answer.resolution ≡ dots_per_inch dpi) × Done dpi answer
  pub refused : answer.outcome ≡ 1
      → (dpi : Dpi) × IsSeen profile number job dpi
      × ((refusal : Refusal) × IsRefusalBy profile dpi job refusal × TellsRefusal refusal answer)

-- the images in a form of these pages, one after the other
abbrev pub HasChosenImages : ImageForm → List ℕ → PageChoice → Dpi → Answer → Type 0
HasChosenImages form job choice dpi answer = AreImagesIn form Drivers dpi job choice answer.made.now

-- the same of the pages from one number to another
abbrev pub HasImages : ImageForm → List ℕ → (first last : ℕ) → Dpi → Answer → Type 0
HasImages form job first last dpi answer =
    (choice : PageChoice) × IsChoiceFor first last choice × HasChosenImages form job choice dpi answer

-- the same as greys, by the scale of a number
abbrev pub HasGreys : List ℕ → (first last number : ℕ) → Dpi → Answer → Type 0
HasGreys job first last number dpi answer =
    (scale : Scale) × IsScaleFor number scale × HasImages (Greymap scale) job first last dpi answer

-- one of these pages, of which this is the last, is missing in an accepted job, as the program says
abbrev pub LacksChosenAt : Dpi → List ℕ → PageChoice → ℕ → Answer → Type 0
LacksChosenAt dpi job choice last answer = LacksPage Drivers dpi job choice × (answer.line.now ≡ c_string (line_of run.NoSuchPage last))

-- the same at the resolution at which the job is seen by a number
abbrev pub LacksChosen : ℕ → List ℕ → PageChoice → ℕ → Answer → Type 0
LacksChosen number job choice last answer = (dpi : Dpi) × IsSeen Drivers number job dpi × LacksChosenAt dpi job choice last answer

-- the same of the pages from one number to another
abbrev pub LacksPages : ℕ → List ℕ → (first last : ℕ) → Answer → Type 0
LacksPages number job first last answer =
    (choice : PageChoice) × IsChoiceFor first last choice × LacksChosen number job choice last answer

-- what an answer tells of pages that are asked for, at a resolution: their images in a form, a refusal of the job, or that one is missing
pub record ShowsAt (form : ImageForm) (dpi : Dpi) (job : List ℕ) (choice : PageChoice) (last : ℕ) (answer : Answer) : Type 0 where
  pub performed : AreArgumentsTaken answer.outcome
  pub done : answer.outcome ≡ 0 → (answer.resolution ≡ dots_per_inch dpi) × HasChosenImages form job choice dpi answer
  pub refused : answer.outcome ≡ 1 → (refusal : Refusal) × IsRefusalBy Drivers dpi job refusal × TellsRefusal refusal answer
  pub missing : answer.outcome ≡ 2 → LacksChosenAt dpi job choice last answer

-- the same at the resolution at which the job is seen by a number, where these images and these missing pages are asked for
pub record ShowsBy (number : ℕ) (job : List ℕ) (Done : Dpi → Answer → Type 0) (Missing : Answer → Type 0) (answer : Answer) : Type 0 where
  pub arguments : TellsArguments answer
  pub done : answer.outcome ≡ 0 → (dpi : Dpi) × IsSeen Drivers number job dpi × (answer.resolution ≡ dots_per_inch dpi) × Done dpi answer
  pub refused : answer.outcome ≡ 1
      → (dpi : Dpi) × IsSeen Drivers number job dpi
      × ((refusal : Refusal) × IsRefusalBy Drivers dpi job refusal × TellsRefusal refusal answer)
  pub missing : answer.outcome ≡ 2 → Missing answer

-- a least raster job of the job's pages, and where one of a format is asked for its certificate, which a check reads
abbrev pub HasLeastJob : List ℕ → Option Format → Dpi → Answer → Type 0
HasLeastJob job None dpi answer = IsWrittenJob dpi job answer.made.now
HasLeastJob job (Some format) dpi answer =
    IsCertifiedJobOf dpi format job answer.made.now answer.certificate.now × (length answer.certificate.now ≤ input_limit)

-- the same with the format of a number
abbrev pub HasWrittenJob : List ℕ → ℕ → Dpi → Answer → Type 0
HasWrittenJob job number dpi answer = (format : Option Format) × IsFormatFor number format × HasLeastJob job format dpi answer

-- a job with the same pages, which asks for the same and is no longer; for printers it may be the job as it came
abbrev pub HasSmallerJob : List ℕ → Dpi → Answer → Type 0
HasSmallerJob job dpi answer = IsWrittenFor Printers Drivers dpi job answer.made.now

-- the number of the job's pages
abbrev pub HasPageCount : List ℕ → Dpi → Answer → Type 0
HasPageCount job dpi answer = (pages : List Sheet) × HasPagesBy Drivers dpi job pages × (length pages ≡ answer.pages)

-- the job is accepted; of the text on its pages nothing is said
abbrev pub IsOfAccepted : List ℕ → Dpi → Answer → Type 0
IsOfAccepted job dpi answer = IsAccepted Drivers dpi job

-- a text on the refusal of the job, or that there is none
abbrev pub HasExplanation : List ℕ → Dpi → Answer → Type 0
HasExplanation job dpi answer = Explains Drivers dpi job answer.made.now

-- the right answer of a check of an output by a certificate, beside its input or images of its pages; it holds where that is Proved
pub record HasVerdict (beside : Beside) (input output certificate : List ℕ) (dpi : Dpi) (answer : Answer) : Type 0 where
  pub given : CheckAnswer
  pub right : IsAnswerBeside beside dpi input output certificate given
  pub line : answer.line.now ≡ c_string (answer_line_of Text given)
  pub holds : IsTrue answer.holds ↔ (given ≡ checked.Job Proved)

-- ---- a job shrunk at each resolution at which it is accepted

-- what an answer tells of this, where the resolution is the first of these
pub record ShrinksAt (dpi : Dpi) (job : List ℕ) (answer : Answer) : Type 0 where
  pub performed : AreArgumentsTaken answer.outcome
  pub no_page : answer.outcome ≢ 2
  pub done : answer.outcome ≡ 0 → (answer.resolution ≡ dots_per_inch dpi) × IsWrittenEverywhere Printers Drivers job answer.made.now
  pub refused : answer.outcome ≡ 1 → (refusal : Refusal) × IsRefusedEverywhere Drivers job refusal × TellsRefusal refusal answer

-- the same at the first, whichever that is
pub record Shrinks (job : List ℕ) (answer : Answer) : Type 0 where
  pub arguments : TellsArguments answer
  pub no_page : answer.outcome ≢ 2
  pub done : answer.outcome ≡ 0
      → (dpi : Dpi) × IsFirstAccepted Drivers job dpi × (answer.resolution ≡ dots_per_inch dpi)
      × IsWrittenEverywhere Printers Drivers job answer.made.now
  pub refused : answer.outcome ≡ 1 → (refusal : Refusal) × IsRefusedEverywhere Drivers job refusal × TellsRefusal refusal answer

-- ---- two jobs

-- the right comparison of two jobs, with what they ask of the printer where that is wanted; it holds where they are the same
pub record HasComparison (asks : Bool) (first second : List ℕ) (dpi : Dpi) (answer : Answer) : Type 0 where
  pub comparison : AskedComparison
  pub right : IsComparisonFor asks Drivers dpi first second comparison
  pub line : answer.line.now ≡ c_string (comparison_line_of Text comparison)
  pub holds : IsTrue answer.holds ↔ (comparison ≡ comparisons.Same)

-- one of two jobs is refused, and which
abbrev pub TellsOneRefused : Dpi → (first second : List ℕ) → Answer → Type 0
TellsOneRefused dpi first second answer =
    ((refusal : Refusal) × IsRefusalBy Drivers dpi first refusal × TellsRefusalOf First refusal answer)
    ⊎ ((refusal : Refusal) × IsRefusalBy Drivers dpi second refusal × TellsRefusalOf Second refusal answer)

-- what an answer tells at a resolution
pub record ComparesAt (asks : Bool) (dpi : Dpi) (first second : List ℕ) (answer : Answer) : Type 0 where
  pub performed : AreArgumentsTaken answer.outcome
  pub no_page : answer.outcome ≢ 2
  pub done : answer.outcome ≡ 0 → (answer.resolution ≡ dots_per_inch dpi) × HasComparison asks first second dpi answer
  pub refused : answer.outcome ≡ 1 → TellsOneRefused dpi first second answer

-- the same at the resolution at which the jobs are compared by a number
pub record Compares (asks : Bool) (number : ℕ) (first second : List ℕ) (answer : Answer) : Type 0 where
  pub arguments : TellsArguments answer
  pub no_page : answer.outcome ≢ 2
  pub done : answer.outcome ≡ 0
      → (dpi : Dpi) × AreSeen asks number first second dpi × (answer.resolution ≡ dots_per_inch dpi)
      × HasComparison asks first second dpi answer
  pub refused : answer.outcome ≡ 1 → (dpi : Dpi) × AreSeen asks number first second dpi × TellsOneRefused dpi first second answer
