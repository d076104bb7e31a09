-- Where what two jobs ask of the printer differs.
use Rattle.std.specs.Prelude.{◌≡◌, ◌≢◌, ℕ, ◌+◌, ◌-◌, ◌<◌, ℤ, Bool, false, ◌&&◌, nat_eq, if◌then◌else◌, List, [], ◌∷◌, ◌++◌, length, take, drop, Option}
use Rattle.pcl_page.specs.declared.asks.AskedPage.{AskedPage}
use Rattle.pcl_page.specs.Asks.{Asks, Exit as UniversalExit}
use Rattle.pcl_same.specs.declared.comparison.AskedDifference.{AskedDifference}
use Rattle.pcl_same.specs.declared.comparison.AskedDifference.TheVariants.{Reset, Setting as BySetting}
use Rattle.pcl_same.specs.declared.comparison.AsksDifference.{AsksDifference}
use Rattle.pcl_same.specs.declared.comparison.AsksDifference.TheVariants.{Page, ExitCount, Exit, Separation, Lasting}
use Rattle.pcl_same.specs.declared.comparison.ExitDifference.{ExitDifference}
use Rattle.pcl_same.specs.declared.comparison.ExitDifference.TheVariants as exit
use Rattle.pcl_same.specs.declared.asking.LastExit.{LastExit}
use Rattle.pcl_same.specs.declared.asking.LastExit.TheVariants.{Counts, Ends}
use Rattle.pcl_same.specs.declared.comparison.Setting.{Setting}
use Rattle.pcl_same.specs.declared.comparison.Setting.TheVariants.{Copies, PageSize, PageLength, Orientation, Sides, OutputBin, MediaType, PaperSource, LeftOffset, TopOffset, TextScale, PrintQuality, Shingling, Depletion, RasterQuality, SheetSide, SizeAgain, SidesAgain, SourceAgain}
use Rattle.pcl_same.specs.declared.comparison.SettingDifference.{SettingDifference}

-- what has this number in two lists, counted from 1, differs so, and what is before it is the same
pub record DifferAt {A : Type 0} (differ : A → A → Type 0) (ones others : List A) (number : ℕ) : Type 0 where
  pub before : List A
  pub one : A
  pub ones_after : List A
  pub ones_are : ones ≡ before ++ one ∷ ones_after
  pub other : A
  pub others_after : List A
  pub others_are : others ≡ before ++ other ∷ others_after
  pub counted : number ≡ length before + 1
  pub differs : differ one other

-- ---- a page

-- what a page is asked with, setting by setting
abbrev pub setting_of : Setting → AskedPage → Option ℤ
setting_of Copies page = page.said.copies
setting_of PageSize page = page.said.page_size
setting_of PageLength page = page.said.page_length
setting_of Orientation page = page.said.orientation
setting_of Sides page = page.said.sides
setting_of OutputBin page = page.said.output_bin
setting_of MediaType page = page.said.media_type
setting_of PaperSource page = page.said.paper_source
setting_of LeftOffset page = page.said.left_offset
setting_of TopOffset page = page.said.top_offset
setting_of TextScale page = page.said.text_scale
setting_of PrintQuality page = page.said.print_quality
setting_of Shingling page = page.said.shingling
setting_of Depletion page = page.said.depletion
setting_of RasterQuality page = page.said.raster_quality
setting_of SheetSide page = page.start.sheet_side
setting_of SizeAgain page = page.start.size
setting_of SidesAgain page = page.start.sides
setting_of SourceAgain page = page.start.source

-- the order in which settings are compared
abbrev pub order_of : Setting → ℕ
order_of Copies = 0
order_of PageSize = 1
order_of PageLength = 2
order_of Orientation = 3
order_of Sides = 4
order_of OutputBin = 5
order_of MediaType = 6
order_of PaperSource = 7
order_of LeftOffset = 8
order_of TopOffset = 9
order_of TextScale = 10
order_of PrintQuality = 11
order_of Shingling = 12
order_of Depletion = 13
order_of RasterQuality = 14
order_of SheetSide = 15
order_of SizeAgain = 16
order_of SidesAgain = 17
order_of SourceAgain = 18

abbrev pub HaveSameSettings : AskedPage → AskedPage → Type 0
HaveSameSettings one other = (setting : Setting) → setting_of setting one ≡ setting_of setting other

-- two pages are asked with different values of this setting, these, and with the same of all settings before it
pub record IsFirstSetting (one other : AskedPage) (difference : SettingDifference) : Type 0 where
  pub first : difference.first ≡ setting_of difference.setting one
  pub second : difference.second ≡ setting_of difference.setting other
  pub differ : difference.first ≢ difference.second
  pub same_before : (setting : Setting) → order_of setting < order_of difference.setting → setting_of setting one ≡ setting_of setting other

-- two pages are asked with different things: one begins a sheet and the other doesn't; else in a setting
abbrev pub IsAskedBy : AskedPage → AskedPage → AskedDifference → Type 0
IsAskedBy one other Reset = one.start.is_first ≢ other.start.is_first
IsAskedBy one other (BySetting difference) = (one.start.is_first ≡ other.start.is_first) × IsFirstSetting one other difference

-- ---- a universal exit

-- two exits differ so: in how many pages come before them; else in whether a reset does; else in their lines
abbrev pub ExitsDifferBy : UniversalExit → UniversalExit → ExitDifference → Type 0
ExitsDifferBy one other (exit.Place first second) = (one.pages ≡ first) × (other.pages ≡ second) × (first ≢ second)
ExitsDifferBy one other exit.Reset = (one.pages ≡ other.pages) × (one.is_reset ≢ other.is_reset)
ExitsDifferBy one other exit.Lines = (one.pages ≡ other.pages) × (one.is_reset ≡ other.is_reset) × (one.lines ≢ other.lines)

-- a universal exit after the last page and without a line, as the last of a list or as none
abbrev pub is_end : ℕ → List UniversalExit → Bool
is_end pages (exit ∷ []) = nat_eq exit.pages pages && nat_eq (length exit.lines) 0
is_end pages exits = false

-- the exits that count, of a job with this many pages: all of them, or all but such a last one, which ends the job as its last byte does
abbrev pub counted_exits : LastExit → ℕ → List UniversalExit → List UniversalExit
counted_exits Counts pages exits = exits
counted_exits Ends pages exits = if is_end pages (drop (length exits - 1) exits) then take (length exits - 1) exits else exits

-- what is asked, of which those exits count
abbrev pub as_counted : LastExit → Asks → Asks
as_counted last asks = record asks { exits = counted_exits last (length asks.pages) asks.exits }

-- ---- jobs

-- what is asked at the ends of two jobs, where the next page begins as after a reset, and none is left to be seen before an exit
abbrev pub AreAtEnd : Asks → Asks → Type 0
AreAtEnd asks others = (asks.next ≡ others.next) × (asks.is_reset ≡ others.is_reset)

-- what the printer keeps or ejects is the same: nothing of either lasts, or both are one job, byte for byte
abbrev pub LeaveTheSame : Asks → Asks → Type 0
LeaveTheSame asks others = (asks.lasts ≡ others.lasts) × (asks.whole ≡ others.whole)

-- what is asked differs so: for a page, the first; else in how many exits there are; else in an exit, the first; else in how the job is
-- separated from the next; else in what stays
abbrev pub AsksDifferBy : Asks → Asks → AsksDifference → Type 0
AsksDifferBy asks others (Page number difference) =
    DifferAt (λ one other. IsAskedBy one other difference) asks.pages others.pages number
AsksDifferBy asks others (ExitCount first second) =
    (asks.pages ≡ others.pages) × (length asks.exits ≡ first) × (length others.exits ≡ second) × (first ≢ second)
AsksDifferBy asks others (Exit number difference) =
    (asks.pages ≡ others.pages) × (length asks.exits ≡ length others.exits)
    × DifferAt (λ one other. ExitsDifferBy one other difference) asks.exits others.exits number
AsksDifferBy asks others Separation =
    (asks.pages ≡ others.pages) × (asks.exits ≡ others.exits) × (asks.separation ≢ others.separation)
AsksDifferBy asks others Lasting =
    (asks.pages ≡ others.pages) × (asks.exits ≡ others.exits) × (asks.separation ≡ others.separation) × (LeaveTheSame asks others → ⊥)
