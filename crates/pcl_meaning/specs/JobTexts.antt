-- Job texts that print pages, the least of them, and a job written again.
use Rattle.std.specs.Prelude.{◌≡◌, ℕ, pos, ◌+◌, ◌*◌, ◌≤◌, List, [], ◌∷◌, ◌++◌, length, map, Some}
use Rattle.pcl_base.specs.declared.dpi.Dpi.{Dpi}
use Rattle.pcl_base.specs.declared.profile.Profile.{Profile}
use Rattle.pcl_base.specs.declared.profile.Profile.TheVariants.{Stated}
use Rattle.pcl_base.specs.Size.{code_of, page_height}
use Rattle.pcl_bitmap.specs.declared.page.Page.{Page}
use Rattle.pcl_env.specs.declared.asked.Asked.{Asked}
use Rattle.pcl_env.specs.Settings.{nothing_asked, copies_said, size_said}
use Rattle.pcl_page.specs.declared.asks.AskedPage.{AskedPage}
use Rattle.pcl_page.specs.declared.asks.PageStart.{PageStart}
use Rattle.pcl_page.specs.Asks.{Asks, no_asks, first_page, next_page}
use Rattle.pcl_page.specs.Situation.{Sheet}
use Rattle.pcl_page.specs.Performing.{Shows}
use Rattle.pcl_page.specs.Jobs.{HasPagesBy}
use Rattle.pcl_page.specs.Alike.{AllAlike}
use Rattle.pcl_output.specs.Tokens.{frame_bytes}
use Rattle.pcl_output.specs.PageText.{PrintsPage}
use Rattle.pcl_writer.specs.Appending.{IsWrittenPage}

-- texts one after the other, one for each item in order, and this holds of each item and its text
abbrev pub AreTexts : {A : Type 0} → (A → List ℕ → Type 0) → List A → List ℕ → Type 0
AreTexts Holds [] texts = texts ≡ []
AreTexts Holds (item ∷ items) texts =
    (text rest : List ℕ) × Holds item text × (texts ≡ text ++ rest) × AreTexts Holds items rest

-- a text for each sheet: this holds of it and of a page that shows the sheet dot for dot
abbrev pub PrintEach : (Page → List ℕ → Type 0) → Dpi → List Sheet → List ℕ → Type 0
PrintEach Holds dpi sheets texts =
    AreTexts (λ (sheet : Sheet) (text : List ℕ). (page : Page) × Shows dpi page sheet × Holds page text) sheets texts

-- a text prints the page, in any spelling, and is as short as any that does
abbrev pub PrintsShortest : Page → List ℕ → Type 0
PrintsShortest page text = PrintsPage page text × ((other : List ℕ) → PrintsPage page other → length text ≤ length other)

-- a job text of these pages: a reset, page texts that print them in order, and a reset
pub record IsJobText (dpi : Dpi) (pages : List Sheet) (job : List ℕ) : Type 0 where
  pub texts : List ℕ
  pub print : PrintEach PrintsPage dpi pages texts
  pub spelled : job ≡ frame_bytes ++ texts ++ frame_bytes

-- a job text of these pages whose page texts are each least, and no job text of the same pages is shorter
pub record IsLeastJobText (dpi : Dpi) (pages : List Sheet) (job : List ℕ) : Type 0 where
  pub texts : List ℕ
  pub print : PrintEach PrintsShortest dpi pages texts
  pub spelled : job ≡ frame_bytes ++ texts ++ frame_bytes
  pub shortest : (other : List ℕ) → IsJobText dpi pages other → length job ≤ length other

-- the most commands of a job that is written of these pages: three for each row and ten around each page's rows, and two resets
abbrev pub most_commands : Dpi → List Sheet → ℕ
most_commands dpi [] = 2
most_commands dpi (sheet ∷ sheets) = 3 * page_height sheet.size dpi + 10 + most_commands dpi sheets

-- what a page text says: the copies and the size, and nothing else
abbrev pub sheet_said : Sheet → Asked
sheet_said sheet = size_said sheet.size (copies_said sheet.copies nothing_asked)

abbrev pub page_said : PageStart → Sheet → AskedPage
page_said start sheet = record { said = sheet_said sheet; start = start }

-- a page text after another one says its size between the two pages
abbrev pub later_said : Sheet → AskedPage
later_said sheet = page_said (record next_page { size = Some (pos (code_of sheet.size)) }) sheet

abbrev pub pages_said : List Sheet → List AskedPage
pages_said [] = []
pages_said (sheet ∷ sheets) = page_said first_page sheet ∷ map later_said sheets

-- what a job text of these pages asks for: what each page text says, without a reset between them, and nothing else
abbrev pub said_for : List Sheet → Asks
said_for pages = record no_asks { pages = pages_said pages }

-- a job text whose page texts print the pages of a job that is read by this profile. It is accepted by the same rules, in few commands, and
-- its pages are the same.
pub record IsJobOfBy (profile : Profile) (dpi : Dpi) (job output : List ℕ) : Type 0 where
  pub pages : List Sheet
  pub meaning : HasPagesBy profile dpi job pages
  pub texts : List ℕ
  pub print : PrintEach IsWrittenPage dpi pages texts
  pub spelled : output ≡ frame_bytes ++ texts ++ frame_bytes
  pub again : List Sheet
  pub accepted : HasPagesBy profile dpi output again
  pub alike : AllAlike dpi pages again
  pub few : length accepted.commands ≤ most_commands dpi pages

-- the same by the stated profile
abbrev pub IsJobOf : Dpi → List ℕ → List ℕ → Type 0
IsJobOf dpi job output = IsJobOfBy Stated dpi job output
