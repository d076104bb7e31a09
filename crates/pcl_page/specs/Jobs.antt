-- What a job means: its pages, or why it is refused.
use Rattle.std.specs.Prelude.{◌≡◌, ℕ, List, length, None}
use Rattle.pcl_base.specs.declared.dpi.Dpi.{Dpi}
use Rattle.pcl_base.specs.declared.profile.Profile.{Profile}
use Rattle.pcl_base.specs.declared.profile.Profile.TheVariants.{Stated}
use Rattle.pcl_escape.specs.Said.{Said}
use Rattle.pcl_escape.specs.Pieces.{IsReading}
use Rattle.pcl_page.specs.Asks.{Asks, of_job}
use Rattle.pcl_page.specs.Situation.{Sheet}
use Rattle.pcl_page.specs.Performing.{performance, pages_of, asks_among}

-- the job is accepted by a profile, and these are its pages
pub record HasPagesBy (profile : Profile) (dpi : Dpi) (job : List ℕ) (pages : List Sheet) : Type 0 where
  pub commands : List Said
  pub reading : IsReading profile job commands
  pub accepted : (performance profile dpi (length job) commands).refusal ≡ None
  pub ejected : pages ≡ pages_of (performance profile dpi (length job) commands)

-- the job is accepted by a profile, and this is what it asks of the printer besides dots
pub record HasAsksBy (profile : Profile) (dpi : Dpi) (job : List ℕ) (asks : Asks) : Type 0 where
  pub commands : List Said
  pub reading : IsReading profile job commands
  pub accepted : (performance profile dpi (length job) commands).refusal ≡ None
  pub asked : asks ≡ of_job job (asks_among (performance profile dpi (length job) commands))

-- the same by the stated profile
abbrev pub HasPages : Dpi → List ℕ → List Sheet → Type 0
HasPages dpi job pages = HasPagesBy Stated dpi job pages

abbrev pub HasAsks : Dpi → List ℕ → Asks → Type 0
HasAsks dpi job asks = HasAsksBy Stated dpi job asks
