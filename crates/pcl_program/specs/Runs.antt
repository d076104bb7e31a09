-- What a run by the words of a command line does with files, reads and writes, and how it ends.
use Rattle.std.specs.Prelude.{◌≡◌, ◌≢◌, ℕ, Bool, ◌&&◌, MatchBool, List, [], ◌∷◌, codes, ◌⊎◌, Option, Some, None, Result, Ok, Err}
use Rattle.clap.specs.Values.{kind_of}
use Rattle.clap.specs.declared.error.Error.{Error}
use Rattle.clap.specs.declared.error.kind.ErrorKind.TheVariants.{DisplayHelp, DisplayVersion, OutOfMemory}
use Rattle.pcl_request.specs.Requests.{writes_raw}
use Rattle.pcl_request.specs.declared.request.Request.{Request}
use Rattle.pcl_messages.specs.declared.endings.Ending.{Ending}
use Rattle.pcl_messages.specs.declared.endings.Ending.TheVariants.{Failed}
use Rattle.pcl_messages.specs.Endings.{IsStatus}
use Rattle.pcl_messages.specs.declared.failures.Failure.TheVariants.{NoMemory}
use Rattle.pcl_messages.specs.Failures.{IsUsageFailure, terminal_line}
use Rattle.pcl_files.specs.Files.{FileAct}
use Rattle.pcl_command.specs.Runs.{HasEnded}
use Rattle.pcl_files.specs.World.{World}

-- nothing was done, so that no job and no image reaches a terminal, and that is said
abbrev pub SparesTerminal : {F : Type 0} → (before after : World F) → Ending → Type 0
SparesTerminal before after (Failed failure) = (after ≡ before) × IsUsageFailure terminal_line failure
SparesTerminal before after other = ⊥

-- an error is shown, but for memory that ran out, which ends a run
abbrev pub IsShown : Error → Result Ending Error → Type 0
IsShown why (Ok ending) = (kind_of why ≡ OutOfMemory) × (ending ≡ Failed NoMemory)
IsShown why (Err error) = (kind_of why ≢ OutOfMemory) × (error ≡ why)

-- how a run ends that is given what its words ask for, or why they ask for nothing that reads or writes: what is asked for is done,
-- unless it would write to a terminal
abbrev pub HasRunAsked : {F : Type 0} → (F → FileAct → F → Type 0) → (is_terminal : Bool) → Result Request Error
    → (before after : World F) → Result Ending Error → Type 0
HasRunAsked acts is_terminal (Ok request) before after (Ok ending) =
    MatchBool (is_terminal && writes_raw request) (SparesTerminal before after ending) (HasEnded acts request before after ending)
HasRunAsked acts is_terminal (Ok request) before after (Err error) = ⊥
HasRunAsked acts is_terminal (Err why) before after result = IsShown why result × (after ≡ before)

-- how a run by words ends, by what it did with files, read and wrote
abbrev pub HasRunWords : {F : Type 0} → (F → FileAct → F → Type 0) → (is_terminal : Bool) → (before after : World F)
    → Result Ending Error → Type 0
HasRunWords acts is_terminal before after result =
    (asked : Result Request Error) × HasRunAsked acts is_terminal asked before after result

-- ---- the words of a batch

-- the word after the program's name
abbrev pub command_word : List (List ℕ) → Option (List ℕ)
command_word [] = None
command_word (program ∷ []) = None
command_word (program ∷ word ∷ words) = Some word

-- a batch is a command of its own, in which each job is a run
abbrev pub AskForBatch : List (List ℕ) → Type 0
AskForBatch words = command_word words ≡ Some (codes "batch")

-- help and the version, which are asked for, are no fault
abbrev pub IsAskedFor : Error → Type 0
IsAskedFor error = (kind_of error ≡ DisplayHelp) ⊎ (kind_of error ≡ DisplayVersion)

-- the status of the program: of how it ended, or 0 where help or the version is shown, and 2 where a usage fault is
abbrev pub IsExitStatus : Result Ending Error → ℕ → Type 0
IsExitStatus (Ok ending) status = IsStatus ending status
IsExitStatus (Err error) status = (IsAskedFor error × (status ≡ 0)) ⊎ ((IsAskedFor error → ⊥) × (status ≡ 2))
