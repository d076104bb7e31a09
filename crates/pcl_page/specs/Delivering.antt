-- What a sink is handed of a job, and how a job is refused.
use Rattle.std.specs.Prelude.{◌≡◌, List, [], ◌∷◌, ◌++◌, length, Some, None, Result, Ok, Err, ℕ, ◌⊎◌}
use Rattle.std.specs.Global.{Vec}
use Rattle.pcl_base.specs.declared.dpi.Dpi.{Dpi}
use Rattle.pcl_base.specs.declared.fault.JobFault.{JobFault}
use Rattle.pcl_base.specs.declared.fault.JobFault.TheVariants.{Refused, Memory}
use Rattle.pcl_base.specs.declared.profile.Profile.{Profile}
use Rattle.pcl_base.specs.declared.profile.Profile.TheVariants.{Stated}
use Rattle.pcl_base.specs.Refusal.{refusal}
use Rattle.pcl_base.specs.declared.refusal.Refusal.{Refusal}
use Rattle.pcl_escape.specs.Said.{Said}
use Rattle.pcl_escape.specs.Pieces.{IsReading}
use Rattle.pcl_escape.specs.Faults.{IsFault}
use Rattle.pcl_bitmap.specs.declared.page.Page.{Page}
use Rattle.pcl_page.specs.declared.asks.Asks.{Asks as AsksOfCode}
use Rattle.pcl_page.specs.Asks.{asks_of}
use Rattle.pcl_page.specs.Situation.{Sheet}
use Rattle.pcl_page.specs.Performing.{Shows, Performance, done, performance, pages_of, asks_among}
use Rattle.pcl_page.specs.Jobs.{HasPages, HasAsksBy}

-- a sink takes pages that show these sheets, in order, each once
abbrev pub Hands : {S : Type 0} → (S → Page → S → Type 0) → Dpi → List Sheet → S → S → Type 0
Hands {S} takes dpi [] old new = new ≡ old
Hands {S} takes dpi (sheet ∷ later) old new =
    (page : Page) × (mid : S) × Shows dpi page sheet × takes old page mid × Hands takes dpi later mid new

-- the pages go to the sink: each of them where the job is accepted, those before the refused command, or the first of these
-- where memory runs out
abbrev pub HandsOver : {S : Type 0} → (S → Page → S → Type 0) → Dpi → Performance → Result (Unit {0}) JobFault → S → S → Type 0
HandsOver {S} takes dpi done (Ok unit) old new = (done.refusal ≡ None) × Hands takes dpi (pages_of done) old new
HandsOver {S} takes dpi done (Err (Refused why)) old new = (done.refusal ≡ Some why) × Hands takes dpi (pages_of done) old new
HandsOver {S} takes dpi done (Err Memory) old new =
    (front rest : List Sheet) × (pages_of done ≡ front ++ rest) × Hands takes dpi front old new

-- the job is read, and the performing by this profile refuses it
pub record IsStopped (profile : Profile) (dpi : Dpi) (job : List ℕ) (refusal : Refusal) : Type 0 where
  pub commands : List Said
  pub reading : IsReading profile job commands
  pub refused : (performance profile dpi (length job) commands).refusal ≡ Some refusal

-- the refusal of a job by a profile: its first fault, or else that of the first command that is refused
abbrev pub IsRefusalBy : Profile → Dpi → List ℕ → Refusal → Type 0
IsRefusalBy profile dpi job refusal = IsFault profile job refusal ⊎ IsStopped profile dpi job refusal

-- the same by the stated profile
abbrev pub IsRefusal : Dpi → List ℕ → Refusal → Type 0
IsRefusal dpi job refusal = IsRefusalBy Stated dpi job refusal

-- what the sink takes of a job whose reading is these commands
pub record IsPerformed {S : Type 0} (takes : S → Page → S → Type 0) (profile : Profile) (dpi : Dpi) (job : List ℕ)
    (result : Result (Unit {0}) JobFault) (old new : S) : Type 0 where
  pub commands : List Said
  pub reading : IsReading profile job commands
  pub handed : HandsOver takes dpi (performance profile dpi (length job) commands) result old new

-- The sink takes the pages of an accepted job, in order; those before the refused command; or the first of these where
-- memory runs out. A job that has no reading gives it none.
abbrev pub DeliversBy : {S : Type 0} → (S → Page → S → Type 0) → Profile → Dpi → List ℕ → Result (Unit {0}) JobFault → S → S → Type 0
DeliversBy {S} takes profile dpi job (Ok unit) old new = IsPerformed takes profile dpi job (Ok unit) old new
DeliversBy {S} takes profile dpi job (Err (Refused refusal)) old new =
    (IsFault profile job refusal × (new ≡ old)) ⊎ IsPerformed takes profile dpi job (Err (Refused refusal)) old new
DeliversBy {S} takes profile dpi job (Err Memory) old new = (new ≡ old) ⊎ IsPerformed takes profile dpi job (Err Memory) old new

-- the same by the stated profile
abbrev pub Delivers : {S : Type 0} → (S → Page → S → Type 0) → Dpi → List ℕ → Result (Unit {0}) JobFault → S → S → Type 0
Delivers {S} takes dpi job result old new = DeliversBy takes Stated dpi job result old new

-- pages show the sheets, one by one
abbrev pub AllShow : Dpi → List Page → List Sheet → Type 0
AllShow dpi [] [] = Unit {0}
AllShow dpi [] (sheet ∷ sheets) = ⊥
AllShow dpi (page ∷ pages) [] = ⊥
AllShow dpi (page ∷ pages) (sheet ∷ sheets) = Shows dpi page sheet × AllShow dpi pages sheets

abbrev pub IsPagesOf : Dpi → List ℕ → Result (Vec Page) JobFault → Type 0
IsPagesOf dpi job (Ok pages) = (meant : List Sheet) × HasPages dpi job meant × AllShow dpi pages.items meant
IsPagesOf dpi job (Err (Refused refusal)) = IsRefusal dpi job refusal
IsPagesOf dpi job (Err Memory) = Unit {0}

-- the pages go to the sink, and where nothing is refused, this is what is asked besides dots
abbrev pub HandsOverAsked : {S : Type 0} → (S → Page → S → Type 0) → Dpi → Performance → Result AsksOfCode JobFault → S → S → Type 0
HandsOverAsked {S} takes dpi done (Ok asks) old new = HandsOver takes dpi done (Ok tt) old new × (asks_of asks ≡ asks_among done)
HandsOverAsked {S} takes dpi done (Err fault) old new = HandsOver takes dpi done (Err fault) old new

-- the sink takes the pages, and where the job is accepted, this is what it asks of the printer besides dots
abbrev pub DeliversAsked : {S : Type 0} → (S → Page → S → Type 0) → Profile → Dpi → List ℕ → Result AsksOfCode JobFault → S → S → Type 0
DeliversAsked {S} takes profile dpi job (Ok asks) old new =
    DeliversBy takes profile dpi job (Ok tt) old new × HasAsksBy profile dpi job (asks_of asks)
DeliversAsked {S} takes profile dpi job (Err fault) old new = DeliversBy takes profile dpi job (Err fault) old new
