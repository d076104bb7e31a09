-- What a task makes of the bytes of a job, and writes.
use Rattle.std.specs.Prelude.{◌≡◌, ℕ, List, ◌⊎◌, Option, Result, Ok, Err}
use Rattle.std.specs.Io.KnownBytes.{Appends, Keeps}
use Rattle.pcl_base.specs.declared.dpi.Dpi.{Dpi}
use Rattle.pcl_base.specs.declared.kind.Kind.{Kind}
use Rattle.pcl_base.specs.declared.profile.Profile.{Profile}
use Rattle.pcl_base.specs.declared.refusal.Refusal.{Refusal}
use Rattle.pcl_page.specs.Accepting.{IsAccepted, IsFirstAccepted}
use Rattle.pcl_page.specs.Delivering.{IsRefusal, IsRefusalBy}
use Rattle.pcl_streams.specs.declared.fault.Fault.{Fault}
use Rattle.pcl_streams.specs.declared.fault.Fault.TheVariants.{Refused, Memory, WriteFault}
use Rattle.pcl_preview.specs.declared.form.ImageForm.{ImageForm}
use Rattle.pcl_preview.specs.declared.form.ImageForm.TheVariants.{Bitmap, Greymap}
use Rattle.pcl_preview.specs.declared.page_images.PageChoice.{PageChoice}
use Rattle.pcl_preview.specs.PageImages.{IsPagesPreview}
use Rattle.pcl_preview.specs.StreamedImages.{IsPagesStreamed}
use Rattle.pcl_streams.specs.Transfer.{AppendsFront}
use Rattle.pcl_tool.specs.Writing.{IsWrittenJob}
use Rattle.pcl_explain.specs.Findings.{Explains, ExplainsAsObject, ExplainsKind, ExplainsKindAsObject}
use Rattle.pcl_request.specs.Requests.{task_profile, widest_of}
use Rattle.pcl_request.specs.declared.request.Layout.{Layout}
use Rattle.pcl_request.specs.declared.request.Layout.TheVariants.{Text, Json}
use Rattle.pcl_request.specs.declared.request.Resolution.{Resolution}
use Rattle.pcl_request.specs.declared.request.Resolution.TheVariants.{Given, FirstAccepted}
use Rattle.pcl_request.specs.declared.request.Task.{Task}
use Rattle.pcl_request.specs.declared.request.Task.TheVariants.{Minimize, Preview, Explain, ExplainKind, DescribePages, Shrink}
use Rattle.pcl_command.specs.Profiles.{IsWrittenUnder, IsWrittenEverywhereUnder, IsRefusedEverywhereUnder}

-- Bytes of which this holds are written, or a prefix of them where their write fails. Or there are none, since the job is refused so or
-- memory ran out, and nothing is written.
abbrev pub WritesOrRefuses : (Holds : List ℕ → Type 0) → (Refuses : Refusal → Type 0) → (old new : Option (List ℕ))
    → Result (Unit {0}) Fault → Type 0
WritesOrRefuses Holds Refuses old new (Ok unit) = (bytes : List ℕ) × Holds bytes × Appends old new bytes
WritesOrRefuses Holds Refuses old new (Err WriteFault) = (bytes : List ℕ) × Holds bytes × AppendsFront old new bytes
WritesOrRefuses Holds Refuses old new (Err (Refused refusal)) = Refuses refusal × Keeps old new
WritesOrRefuses Holds Refuses old new (Err Memory) = Keeps old new
WritesOrRefuses Holds Refuses old new (Err fault) = ⊥

-- no job is refused that is explained
abbrev pub NeverRefuses : Refusal → Type 0
NeverRefuses refusal = ⊥

-- a text on the pages of a job comes of an accepted one
abbrev pub TellsOfPages : Profile → Dpi → List ℕ → List ℕ → Type 0
TellsOfPages profile dpi job text = IsAccepted profile dpi job

-- what is said of a job, and of a kind of refusal, in a layout
abbrev pub ExplainsIn : Layout → Profile → Dpi → List ℕ → List ℕ → Type 0
ExplainsIn Text profile dpi job text = Explains profile dpi job text
ExplainsIn Json profile dpi job text = ExplainsAsObject profile dpi job text

abbrev pub ExplainsKindIn : Layout → Kind → List ℕ → Type 0
ExplainsKindIn Text kind text = ExplainsKind kind text
ExplainsKindIn Json kind text = ExplainsKindAsObject kind text

-- the pages that are asked for are written as images: bitmaps once all of them are made, greymaps one by one
abbrev pub ArePagesWritten : ImageForm → PageChoice → Profile → Dpi → (job : List ℕ) → (old new : Option (List ℕ)) → Result (Unit {0}) Fault
    → Type 0
ArePagesWritten Bitmap choice profile dpi job old new done = IsPagesPreview Bitmap profile dpi job choice old new done
ArePagesWritten (Greymap scale) choice profile dpi job old new done = IsPagesStreamed (Greymap scale) profile dpi job choice old new done

-- what was asked for is done with a job at a resolution, or failed so
abbrev pub IsDone : Task → Dpi → (job : List ℕ) → (old new : Option (List ℕ)) → Result (Unit {0}) Fault → Type 0
IsDone Minimize dpi job old new done = WritesOrRefuses (IsWrittenJob dpi job) (IsRefusal dpi job) old new done
IsDone (Preview choice form profile) dpi job old new done = ArePagesWritten form choice profile dpi job old new done
IsDone (Explain layout profile) dpi job old new done = WritesOrRefuses (ExplainsIn layout profile dpi job) NeverRefuses old new done
IsDone (ExplainKind layout kind) dpi job old new done = WritesOrRefuses (ExplainsKindIn layout kind) NeverRefuses old new done
IsDone (DescribePages layout profile) dpi job old new done =
    WritesOrRefuses (TellsOfPages profile dpi job) (IsRefusalBy profile dpi job) old new done
IsDone (Shrink how report) dpi job old new done =
    WritesOrRefuses (IsWrittenUnder how.readers how.profiles dpi job) (IsRefusalBy (widest_of how.profiles) dpi job) old new done

-- The same at a resolution that is given, or at the first at which the job is accepted, unless memory runs out before that is known. A
-- job is shrunk for each resolution at which it is accepted.
abbrev pub IsDoneSeen : Task → Resolution → (job : List ℕ) → (old new : Option (List ℕ)) → Result (Unit {0}) Fault → Type 0
IsDoneSeen task (Given dpi) job old new done = IsDone task dpi job old new done
IsDoneSeen (Shrink how report) FirstAccepted job old new done =
    WritesOrRefuses (IsWrittenEverywhereUnder how.readers how.profiles job) (IsRefusedEverywhereUnder how.profiles job) old new done
IsDoneSeen task FirstAccepted job old new done =
    ((done ≡ Err Memory) × Keeps old new)
    ⊎ ((dpi : Dpi) × IsFirstAccepted (task_profile task) job dpi × IsDone task dpi job old new done)
