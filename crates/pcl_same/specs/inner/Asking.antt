-- What is found of a part of what two jobs ask of the printer.
use Rattle.std.specs.Prelude.{◌≡◌, ◌≢◌, List, length, Option}
use Rattle.std.specs.Prelude.{ℤ}
use Rattle.pcl_page.specs.declared.asks.AskedPage.{AskedPage}
use Rattle.pcl_page.specs.Asks.{Exit as UniversalExit}
use Rattle.pcl_same.specs.declared.comparison.AsksDifference.{AsksDifference}
use Rattle.pcl_same.specs.declared.comparison.AsksDifference.TheVariants.{Page, ExitCount, Exit}
use Rattle.pcl_same.specs.declared.comparison.Setting.{Setting}
use Rattle.pcl_same.specs.declared.comparison.SettingDifference.{SettingDifference}
use Rattle.pcl_same.specs.DifferingAsks.{DifferAt, IsAskedBy, ExitsDifferBy}

-- the values of a setting, which differ
pub record IsSettingDifference (setting : Setting) (first second : Option ℤ) (difference : SettingDifference) : Type 0 where
  pub setting_is : difference.setting ≡ setting
  pub first_is : difference.first ≡ first
  pub second_is : difference.second ≡ second
  pub differ : first ≢ second

-- pages are asked with different things, first at this one
abbrev pub IsPageDifference : List AskedPage → List AskedPage → AsksDifference → Type 0
IsPageDifference pages others (Page number difference) = DifferAt (λ one other. IsAskedBy one other difference) pages others number
IsPageDifference pages others difference = ⊥

-- exits differ so
abbrev pub IsExitDifference : List UniversalExit → List UniversalExit → AsksDifference → Type 0
IsExitDifference exits others (ExitCount first second) = (length exits ≡ first) × (length others ≡ second) × (first ≢ second)
IsExitDifference exits others (Exit number difference) =
    (length exits ≡ length others) × DifferAt (λ one other. ExitsDifferBy one other difference) exits others number
IsExitDifference exits others difference = ⊥
