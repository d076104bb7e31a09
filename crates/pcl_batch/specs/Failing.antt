-- The status of a run that failed.
use Rattle.std.specs.Prelude.{ℕ, ◌≢◌}
use Rattle.pcl_messages.specs.declared.failures.Failure.{Failure}
use Rattle.pcl_messages.specs.declared.failures.Failure.TheVariants.{Said, NoMemory}

-- a run that failed doesn't end with status 0
abbrev pub HasFailingStatus : Failure → Type 0
HasFailingStatus (Said line status fault) = status ≢ 0
HasFailingStatus NoMemory = Unit {0}
