-- The first difference of what two jobs ask of the printer.
use Rattle.std.proofs.Common.{◌≡◌, ℕ, suc, ◌+◌, ◌<◌, List, length, map, take, drop, get_or, Option, Some, None, refl, arith}
use Rattle.pcl_same.proofs.Names.{MatchOption, option_or, take-append-drop, length-take-le, length-map, take_more_same, get_or-map, drop-cons, AskedPage, exit_of, ExitDifference, Setting, SettingDifference, DifferAt, HaveSameSettings, setting_of, order_of, IsFirstSetting, ExitsDifferBy, IsSettingDifference, IsExitDifference}
use Rattle.pcl_page.specs.declared.asks.Exit.{Exit as ExitOfCode}
use Rattle.pcl_same.specs.declared.comparison.Setting.TheVariants.{Copies, PageSize, PageLength, Orientation, Sides, OutputBin, MediaType, PaperSource, LeftOffset, TopOffset, TextScale, PrintQuality, Shingling, Depletion, RasterQuality, SheetSide, SizeAgain, SidesAgain, SourceAgain}
use Rattle.pcl_same.specs.declared.comparison.AsksDifference.TheVariants as exits

-- ---- settings

first_here : {one other : AskedPage} {d : SettingDifference} (setting : Setting)
    → ((before : Setting) → order_of before < order_of setting → setting_of before one ≡ setting_of before other)
    → IsSettingDifference setting (setting_of setting one) (setting_of setting other) d → IsFirstSetting one other d
first_here setting same is = record {
  first = rw is.setting_is is.first_is;
  second = rw is.setting_is is.second_is;
  differ = λ same. is.differ cc;
  same_before = rw is.setting_is same;
}

-- a setting is the same, or differs so
abbrev pub SaysOfSetting : AskedPage → AskedPage → Setting → Option SettingDifference → Type 0
SaysOfSetting one other setting found =
    MatchOption found (setting_of setting one ≡ setting_of setting other)
    (IsSettingDifference setting (setting_of setting one) (setting_of setting other))

-- all settings before one are the same
abbrev SameBelow : AskedPage → AskedPage → ℕ → Type 0
SameBelow one other n = (setting : Setting) → order_of setting < n → setting_of setting one ≡ setting_of setting other

-- what is found of the settings before this one
abbrev pub SaysBelow : AskedPage → AskedPage → ℕ → Option SettingDifference → Type 0
SaysBelow one other n found = MatchOption found (SameBelow one other n) (IsFirstSetting one other)

one_more : (one other : AskedPage) (setting : Setting) → SameBelow one other (order_of setting)
    → setting_of setting one ≡ setting_of setting other → SameBelow one other (order_of setting + 1)
one_more one other setting below here before lt = grind (arith, below before, here)

pub then_setting : (one other : AskedPage) (setting : Setting) (found next : Option SettingDifference)
    → SaysBelow one other (order_of setting) found → SaysOfSetting one other setting next
    → SaysBelow one other (order_of setting + 1) (option_or found next)
then_setting one other setting (Some d) next below here = below
then_setting one other setting None (Some d) below here = first_here setting below here
then_setting one other setting None None below here = one_more one other setting below here

pub none_below : (one other : AskedPage) → SaysBelow one other 0 None
none_below one other setting lt = absurd (omega arith)

pub all_same : (one other : AskedPage) (found : Option SettingDifference) → SaysBelow one other 19 found
    → MatchOption found (HaveSameSettings one other) (IsFirstSetting one other)
all_same one other (Some d) says = says
all_same one other None says = λ setting. says setting (small setting)
  where
    small : (setting : Setting) → order_of setting < 19
    small setting = grind arith

-- ---- a page

pub same_page : {one other : AskedPage} → one.start.is_first ≡ other.start.is_first → HaveSameSettings one other → one ≡ other
same_page first same =
    let copies = same Copies in
    let size = same PageSize in
    let len = same PageLength in
    let orientation = same Orientation in
    let sides = same Sides in
    let bin = same OutputBin in
    let media = same MediaType in
    let source = same PaperSource in
    let left = same LeftOffset in
    let top = same TopOffset in
    let text_scale = same TextScale in
    let print_quality = same PrintQuality in
    let shingling = same Shingling in
    let depletion = same Depletion in
    let raster_quality = same RasterQuality in
    let side = same SheetSide in
    let size_again = same SizeAgain in
    let sides_again = same SidesAgain in
    let source_again = same SourceAgain in
    λ i. record {
      said = record {
        copies = copies i;
        page_size = size i;
        page_length = len i;
        orientation = orientation i;
        sides = sides i;
        output_bin = bin i;
        media_type = media i;
        paper_source = source i;
        left_offset = left i;
        top_offset = top i;
        text_scale = text_scale i;
        print_quality = print_quality i;
        shingling = shingling i;
        depletion = depletion i;
        raster_quality = raster_quality i;
      };
      start = record { is_first = first i; sheet_side = side i; size = size_again i; sides = sides_again i; source = source_again i };
    }

-- ---- lists

-- the first place at which two lists differ
pub differ_here : {A : Type 0} (differ : A → A → Type 0) (xs ys : List A) {n : ℕ} (d e : A) → n < length xs → n < length ys
    → take n xs ≡ take n ys → differ (get_or xs n d) (get_or ys n e) → DifferAt differ xs ys (n + 1)
differ_here {A} differ xs ys {n} d e lt lt' same differs = record {
  before = take n xs;
  one = get_or xs n d;
  ones_after = drop (suc n) xs;
  ones_are = rw (← drop-cons xs n d lt, take-append-drop n xs) refl;
  other = get_or ys n e;
  others_after = drop (suc n) ys;
  others_are = rw (same, ← drop-cons ys n e lt', take-append-drop n ys) refl;
  counted = omega (arith, length-take-le n xs (omega arith));
  differs = differs;
}

-- ---- universal exits

module _ (xs ys : List ExitOfCode) {n : ℕ} (d : ExitOfCode) (lt : n < length xs) (count : length xs ≡ length ys)
    (same : take n (map exit_of xs) ≡ take n (map exit_of ys)) where
  pub exit_differs : (difference : ExitDifference) → ExitsDifferBy (exit_of (get_or xs n d)) (exit_of (get_or ys n d)) difference
      → IsExitDifference (map exit_of xs) (map exit_of ys) (exits.Exit (n + 1) difference)
  exit_differs difference differs =
      let long = length-map xs exit_of in
      let other = length-map ys exit_of in (
        cc,
        differ_here (λ one two. ExitsDifferBy one two difference) (map exit_of xs) (map exit_of ys) (exit_of d) (exit_of d)
            (omega arith) (omega arith) same (rw (get_or-map exit_of xs n d, get_or-map exit_of ys n d) differs),
      )

  pub exit_passed : exit_of (get_or xs n d) ≡ exit_of (get_or ys n d) → take (n + 1) (map exit_of xs) ≡ take (n + 1) (map exit_of ys)
  exit_passed here =
      let long = length-map xs exit_of in
      let other = length-map ys exit_of in
      take_more_same (map exit_of xs) (map exit_of ys) n (exit_of d) (omega arith) (omega arith) same
      (rw (get_or-map exit_of xs n d, get_or-map exit_of ys n d) here)
