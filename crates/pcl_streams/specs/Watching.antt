-- What a sink holds that took the pages of a job.
use Rattle.std.specs.Prelude.{ℕ, List, Result, Ok, Err}
use Rattle.pcl_base.specs.declared.dpi.Dpi.{Dpi}
use Rattle.pcl_base.specs.declared.fault.JobFault.{JobFault}
use Rattle.pcl_base.specs.declared.fault.JobFault.TheVariants.{Refused, Memory}
use Rattle.pcl_bitmap.specs.declared.page.Page.{Page}
use Rattle.pcl_page.specs.Situation.{Sheet}
use Rattle.pcl_page.specs.Delivering.{Hands, IsRefusal}
use Rattle.pcl_page.specs.Jobs.{HasPages}

-- the sink took the pages of an accepted job, in order; or the job is refused so; or memory ran out
abbrev pub HasTaken : {S : Type 0} → (S → Page → S → Type 0) → Dpi → List ℕ → S → Result S JobFault → Type 0
HasTaken {S} takes dpi job begun (Ok taken) = (pages : List Sheet) × HasPages dpi job pages × Hands takes dpi pages begun taken
HasTaken {S} takes dpi job begun (Err (Refused refusal)) = IsRefusal dpi job refusal
HasTaken {S} takes dpi job begun (Err Memory) = Unit {0}
