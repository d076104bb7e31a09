-- Files that would take the place of a job's.
use Rattle.std.specs.Prelude.{◌≡◌, ◌⊎◌, List, ℕ, Bool, true, false, Option, Some, None}
use Rattle.std.specs.Borrow.{Bor}
use Rattle.pcl_files.specs.Files.{FileAct, AreOne, AreTwo}
use Rattle.pcl_request.specs.Requests.{aside_of, first_job, second_job}
use Rattle.pcl_request.specs.declared.request.Request.{Request}

-- a name is that of a job's file, or there is no such file
abbrev pub SayIfNamed : {F : Type 0} → (F → FileAct → F → Type 0) → F → (name : List ℕ) → (job : Option (Bor (List ℕ))) → Bool → Type 0
SayIfNamed acts files name (Some job) true = AreOne acts files name job.now
SayIfNamed acts files name (Some job) false = AreTwo acts files name job.now
SayIfNamed acts files name None said = said ≡ false

-- one of two jobs' files has a name, or none of them
abbrev pub SayIfEither : {F : Type 0} → (F → FileAct → F → Type 0) → F → (name : List ℕ) → (first second : Option (Bor (List ℕ)))
    → Bool → Type 0
SayIfEither acts files name first second true = SayIfNamed acts files name first true ⊎ SayIfNamed acts files name second true
SayIfEither acts files name first second false = SayIfNamed acts files name first false × SayIfNamed acts files name second false

abbrev pub SayIfTaken : {F : Type 0} → (F → FileAct → F → Type 0) → F → (aside first second : Option (Bor (List ℕ))) → Bool → Type 0
SayIfTaken acts files (Some name) first second said = SayIfEither acts files name.now first second said
SayIfTaken acts files None first second said = said ≡ false

-- the file of a certificate or of an image is that of a job that is read, written or compared, or a file of its own
abbrev pub SayIfClash : {F : Type 0} → (F → FileAct → F → Type 0) → F → Request → Bool → Type 0
SayIfClash acts files request said = SayIfTaken acts files (aside_of request) (first_job request) (second_job request) said
