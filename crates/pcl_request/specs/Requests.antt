-- What the program is asked for.
use Rattle.std.specs.Prelude.{◌≡◌, ℕ, Bool, true, false, ◌&&◌, List, Option, Some, None, codes}
use Rattle.std.specs.Borrow.{Bor}
use Rattle.pcl_base.specs.declared.dpi.Dpi.TheVariants.{Dpi300, Dpi600}
use Rattle.pcl_base.specs.declared.profile.Profile.{Profile}
use Rattle.pcl_base.specs.declared.profile.Profile.TheVariants.{Stated, Drivers}
use Rattle.pcl_preview.specs.PageImages.{last_page}
use Rattle.pcl_request.specs.declared.batch.Rewriting.{Rewriting}
use Rattle.pcl_request.specs.declared.batch.Rewriting.TheVariants as rewriting
use Rattle.pcl_request.specs.declared.request.Beside.{Beside}
use Rattle.pcl_request.specs.declared.request.Beside.TheVariants.{Input, Images}
use Rattle.pcl_request.specs.declared.request.Request.{Request}
use Rattle.pcl_request.specs.declared.request.Request.TheVariants as asked
use Rattle.pcl_request.specs.declared.request.Resolution.{Resolution}
use Rattle.pcl_request.specs.declared.request.Resolution.TheVariants.{Given, FirstAccepted}
use Rattle.pcl_request.specs.declared.request.Source.{Source}
use Rattle.pcl_request.specs.declared.request.Source.TheVariants as source
use Rattle.pcl_request.specs.declared.request.Target.{Target}
use Rattle.pcl_request.specs.declared.request.Target.TheVariants as target
use Rattle.pcl_request.specs.declared.request.Task.{Task}
use Rattle.pcl_request.specs.declared.request.Task.TheVariants.{Preview, Explain, ExplainKind, DescribePages, Shrink}
use Rattle.pcl_request.specs.declared.request.Work.{Work}
use Rattle.pcl_request.specs.declared.request.Work.TheVariants as work
use Rattle.pcl_request.specs.declared.profiles.Profiles.{Profiles}
use Rattle.pcl_request.specs.declared.profiles.Profiles.TheVariants as read_by

-- the last page that is asked for by its number, 0 where none is
abbrev pub task_page : Task → ℕ
task_page (Preview choice form profile) = last_page choice
task_page other = 0

-- the widest of the profiles by which a job is read that is shrunk
abbrev pub widest_of : Profiles → Profile
widest_of read_by.Stated = Stated
widest_of read_by.Either = Drivers
widest_of read_by.Drivers = Drivers

-- by which profile the job is read, the widest where several are tried
abbrev pub task_profile : Task → Profile
task_profile (Preview choice form profile) = profile
task_profile (Explain layout profile) = profile
task_profile (DescribePages layout profile) = profile
task_profile (Shrink how report) = widest_of how.profiles
task_profile other = Stated

-- the page that work is asked for, 0 where it is none
abbrev pub page_of : Work → ℕ
page_of (work.Task task) = task_page task
page_of (work.Certify certificate) = 0

-- the profile by which a job of a batch is read, the widest where several are tried
abbrev pub rewriting_profile : Rewriting → Profile
rewriting_profile (rewriting.Shrink how) = widest_of how.profiles
rewriting_profile (rewriting.ShrinkEverywhere how) = widest_of how.profiles
rewriting_profile rewriting.Certify = Stated

-- a job or an image is made, and not a text
abbrev pub makes_raw : Task → Bool
makes_raw (Explain layout profile) = false
makes_raw (ExplainKind layout kind) = false
makes_raw (DescribePages layout profile) = false
makes_raw other = true

abbrev pub has_raw : Work → Bool
has_raw (work.Task task) = makes_raw task
has_raw (work.Certify certificate) = true

abbrev pub is_standard_output : Target → Bool
is_standard_output target.StandardOutput = true
is_standard_output (target.File name) = false

-- one is written to standard output
abbrev pub writes_raw : Request → Bool
writes_raw (asked.Run run) = has_raw run.work && is_standard_output run.target
writes_raw other = false

-- the file of a certificate
abbrev pub certificate_file : Work → Option (Bor (List ℕ))
certificate_file (work.Task task) = None
certificate_file (work.Certify certificate) = Some certificate.file

-- the file that is written beside the jobs: of a certificate, or of an image of the dots that differ
abbrev pub aside_of : Request → Option (Bor (List ℕ))
aside_of (asked.Run run) = certificate_file run.work
aside_of (asked.Check files) = None
aside_of (asked.Compare files) = files.image

-- the file of a job that is read
abbrev pub source_file : Source → Option (Bor (List ℕ))
source_file source.StandardInput = None
source_file (source.File name) = Some name

-- the file that is written
abbrev pub target_file : Target → Option (Bor (List ℕ))
target_file target.StandardOutput = None
target_file (target.File name) = Some name

-- the files of the jobs: of one that is read and one that is written, of two that are checked or compared
abbrev pub first_job : Request → Option (Bor (List ℕ))
first_job (asked.Run run) = source_file run.source
first_job (asked.Check files) = Some files.input
first_job (asked.Compare files) = Some files.first

abbrev pub second_job : Request → Option (Bor (List ℕ))
second_job (asked.Run run) = target_file run.target
second_job (asked.Check files) = Some files.output
second_job (asked.Compare files) = Some files.second

-- the job that is performed: the input, or where images are given the output
abbrev pub performed : Beside → (input output : List ℕ) → List ℕ
performed Input input output = input
performed Images input output = output

-- the words that name resolutions
abbrev pub IsWordFor : Resolution → List ℕ → Type 0
IsWordFor (Given Dpi300) word = word ≡ codes "300"
IsWordFor (Given Dpi600) word = word ≡ codes "600"
IsWordFor FirstAccepted word = word ≡ codes "auto"
