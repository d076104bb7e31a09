-- The texts of pages as rasters.
use Rattle.std.specs.Prelude.{◌≡◌, ℕ, List, [], ◌∷◌, ◌++◌, map, Option, Result, Ok, Err}
use Rattle.std.specs.Global.{Vec}
use Rattle.pcl_base.specs.declared.dpi.Dpi.{Dpi}
use Rattle.pcl_base.specs.declared.fault.JobFault.{JobFault}
use Rattle.pcl_base.specs.declared.fault.JobFault.TheVariants.{Refused, Memory}
use Rattle.pcl_base.specs.declared.profile.Profile.{Profile}
use Rattle.pcl_bitmap.specs.declared.page.Page.{Page}
use Rattle.pcl_page.specs.Situation.{Sheet}
use Rattle.pcl_page.specs.Performing.{Shows}
use Rattle.pcl_page.specs.Asks.{asks_of}
use Rattle.pcl_page.specs.Jobs.{HasPagesBy, HasAsksBy}
use Rattle.pcl_page.specs.Delivering.{IsRefusalBy}
use Rattle.pcl_writer.specs.Appending.{IsWrittenPage}
use Rattle.pcl_same.specs.Kept.{KeepsWithin, KeepAllIfAny, kept_pages}
use Rattle.pcl_same.specs.declared.keeping.KeptPage.{KeptPage}
use Rattle.pcl_shrink.specs.declared.rasters.Text.{Text}
use Rattle.pcl_shrink.specs.declared.texts.Found.{Found}

-- a least page text for each page
abbrev pub AreLeastTexts : Dpi → List Sheet → List (List ℕ) → Type 0
AreLeastTexts dpi [] [] = Unit {0}
AreLeastTexts dpi [] (text ∷ texts) = ⊥
AreLeastTexts dpi (sheet ∷ sheets) [] = ⊥
AreLeastTexts dpi (sheet ∷ sheets) (text ∷ texts) =
    ((page : Page) × Shows dpi page sheet × IsWrittenPage page text) × AreLeastTexts dpi sheets texts

-- ---- of the code

abbrev pub least_of : List Text → List (List ℕ)
least_of texts = map (λ (text : Text). text.least.items) texts

-- a page more has its text
abbrev pub TakesText : List (List ℕ) → Page → List (List ℕ) → Type 0
TakesText old page new = (text : List ℕ) × (new ≡ old ++ text ∷ []) × IsWrittenPage page text

-- the texts of pages, and the pages themselves, if they are kept
pub record PagesRead : Type 0 where
  pub texts : List (List ℕ)
  pub kept : Option (List KeptPage)

-- the same of a page more
pub record ReadsPage (old : PagesRead) (page : Page) (new : PagesRead) : Type 0 where
  pub text : TakesText old.texts page new.texts
  pub kept : KeepsWithin old.kept page new.kept

-- the job is accepted, and these are its pages' texts
abbrev pub AreTextsOf : Profile → Dpi → List ℕ → List (List ℕ) → Type 0
AreTextsOf profile dpi job texts = (pages : List Sheet) × HasPagesBy profile dpi job pages × AreLeastTexts dpi pages texts

abbrev pub HasTextsAlone : Profile → Dpi → List ℕ → Result (Vec Text) JobFault → Type 0
HasTextsAlone profile dpi job (Ok texts) = AreTextsOf profile dpi job (least_of texts.items)
HasTextsAlone profile dpi job (Err (Refused refusal)) = IsRefusalBy profile dpi job refusal
HasTextsAlone profile dpi job (Err Memory) = Unit {0}

-- these, what the job asks for, and its pages, if they are kept
abbrev pub IsFoundIn : Profile → Dpi → List ℕ → Found → Type 0
IsFoundIn profile dpi job found =
    HasAsksBy profile dpi job (asks_of found.asks)
    × ((pages : List Sheet) × HasPagesBy profile dpi job pages × KeepAllIfAny dpi pages (kept_pages found.keeper))

abbrev pub HasTexts : Profile → Dpi → List ℕ → Result (Vec Text × Found) JobFault → Type 0
HasTexts profile dpi job (Ok found) = AreTextsOf profile dpi job (least_of found.0.items) × IsFoundIn profile dpi job found.1
HasTexts profile dpi job (Err (Refused refusal)) = IsRefusalBy profile dpi job refusal
HasTexts profile dpi job (Err Memory) = Unit {0}
