use Rattle.pcl_same.proofs.FirstAsked.{then_setting, none_below, all_same}
use Rattle.pcl_same.specs.declared.comparison.Setting.TheVariants.{Copies, PageSize, PageLength, Orientation, Sides, OutputBin, MediaType, PaperSource, LeftOffset, TopOffset, TextScale, PrintQuality, Shingling, Depletion, RasterQuality, SheetSide, SizeAgain, SidesAgain, SourceAgain}
use Rattle.std.specs.Prelude.{None}
use Rattle.pcl_same.proofs.asking.setting_difference.Goals as goal

pub returns : goal.returns
returns c =
    let one = c.args.one.now in
    let other = c.args.other.now in
    let below_0 = then_setting one other Copies None c.differing.result (none_below one other) c.differing.ensures in
    let below_1 = then_setting one other PageSize _ c.differing-2.result below_0 c.differing-2.ensures in
    let below_2 = then_setting one other PageLength _ c.differing-3.result below_1 c.differing-3.ensures in
    let below_3 = then_setting one other Orientation _ c.differing-4.result below_2 c.differing-4.ensures in
    let below_4 = then_setting one other Sides _ c.differing-5.result below_3 c.differing-5.ensures in
    let below_5 = then_setting one other OutputBin _ c.differing-6.result below_4 c.differing-6.ensures in
    let below_6 = then_setting one other MediaType _ c.differing-7.result below_5 c.differing-7.ensures in
    let below_7 = then_setting one other PaperSource _ c.differing-8.result below_6 c.differing-8.ensures in
    let below_8 = then_setting one other LeftOffset _ c.differing-9.result below_7 c.differing-9.ensures in
    let below_9 = then_setting one other TopOffset _ c.differing-10.result below_8 c.differing-10.ensures in
    let below_10 = then_setting one other TextScale _ c.differing-11.result below_9 c.differing-11.ensures in
    let below_11 = then_setting one other PrintQuality _ c.differing-12.result below_10 c.differing-12.ensures in
    let below_12 = then_setting one other Shingling _ c.differing-13.result below_11 c.differing-13.ensures in
    let below_13 = then_setting one other Depletion _ c.differing-14.result below_12 c.differing-14.ensures in
    let below_14 = then_setting one other RasterQuality _ c.differing-15.result below_13 c.differing-15.ensures in
    let below_15 = then_setting one other SheetSide _ c.differing-16.result below_14 c.differing-16.ensures in
    let below_16 = then_setting one other SizeAgain _ c.differing-17.result below_15 c.differing-17.ensures in
    let below_17 = then_setting one other SidesAgain _ c.differing-18.result below_16 c.differing-18.ensures in
    let below_18 = then_setting one other SourceAgain _ c.differing-19.result below_17 c.differing-19.ensures in
    rw (
      c.or-18.ensures,
      c.or-17.ensures,
      c.or-16.ensures,
      c.or-15.ensures,
      c.or-14.ensures,
      c.or-13.ensures,
      c.or-12.ensures,
      c.or-11.ensures,
      c.or-10.ensures,
      c.or-9.ensures,
      c.or-8.ensures,
      c.or-7.ensures,
      c.or-6.ensures,
      c.or-5.ensures,
      c.or-4.ensures,
      c.or-3.ensures,
      c.or-2.ensures,
      c.or.ensures,
    ) (all_same one other _ below_18)
