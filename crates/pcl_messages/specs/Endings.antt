-- How a run ends.
use Rattle.std.specs.Prelude.{◌≡◌, ℕ}
use Rattle.pcl_messages.specs.Failures.{IsFailureStatus}
use Rattle.pcl_messages.specs.Verdicts.{answer_status_for}
use Rattle.pcl_messages.specs.ComparisonLines.{comparison_status_for}
use Rattle.pcl_messages.specs.declared.failures.Failure.{Failure}
use Rattle.pcl_messages.specs.declared.endings.Ending.{Ending}
use Rattle.pcl_messages.specs.declared.endings.Ending.TheVariants.{Done, Checked, Compared, Failed}

-- the status of the program
abbrev pub IsStatus : Ending → ℕ → Type 0
IsStatus Done status = status ≡ 0
IsStatus (Checked answer) status = status ≡ answer_status_for answer
IsStatus (Compared comparison) status = status ≡ comparison_status_for comparison
IsStatus (Failed failure) status = IsFailureStatus failure status
