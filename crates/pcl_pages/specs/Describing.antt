-- What is said of the pages of a job.
use Rattle.std.specs.Prelude.{ℕ, List, Result, Ok, Err}
use Rattle.std.specs.Global.{Vec}
use Rattle.pcl_base.specs.declared.dpi.Dpi.{Dpi}
use Rattle.pcl_base.specs.declared.fault.JobFault.{JobFault}
use Rattle.pcl_base.specs.declared.fault.JobFault.TheVariants.{Refused, Memory}
use Rattle.pcl_base.specs.declared.profile.Profile.{Profile}
use Rattle.pcl_page.specs.Accepting.{IsAccepted}
use Rattle.pcl_page.specs.Delivering.{IsRefusalBy}

-- a text comes of an accepted job alone; else its refusal
abbrev pub IsDescribed : Profile → Dpi → List ℕ → Result (Vec ℕ) JobFault → Type 0
IsDescribed profile dpi job (Ok text) = IsAccepted profile dpi job
IsDescribed profile dpi job (Err (Refused refusal)) = IsRefusalBy profile dpi job refusal
IsDescribed profile dpi job (Err Memory) = Unit {0}
