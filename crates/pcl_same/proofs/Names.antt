-- What proofs of this crate name of std, of the crates below, and of its own definitions; those above take these from here too.
pub use Rattle.pcl_base.proofs.Names.{AllByRecursion, MatchOption, append_cancel_left, arith, bit_at, bit_at-lt, bit_at-zero, bit_at_above, bit_at_cat_high, bit_at_xor, bit_xor, cases_lt, count_leading_zeros, drop-append-le, drop-append_seam, drop-cons, drop-drop, drop_all, get_or-map, get_or_append_left, get_or_past, get_or_push, le-ltb, leading_top, length-append, length-drop, length-map, length-take-le, lt-ltb, nat_lt, nat_tests, option_or, or-false, page_height, page_row_bytes, page_width, rules, same_from_bits_below, slice_index, take, take-append-drop, take-append-le, take-append_seam, take-length, take-replicate, take_more, take_more_same, xor_of_8}
pub use Rattle.pcl_base.proofs.{PageBounds.row_small}
pub use Rattle.pcl_base.specs.declared.{dpi.Dpi.Dpi, method.Method.TheVariants.Delta, profile.Profile.Profile, profile.Profile.TheVariants.Drivers, profile.Profile.TheVariants.Stated, refusal.Refusal.Refusal}
pub use Rattle.pcl_bitmap.proofs.Names.{IsPicture, Picture, bit_of_byte, dot, dot_of_row, raster_dot, row_of}
pub use Rattle.pcl_bitmap.proofs.{Pictures.same_dots}
pub use Rattle.pcl_bitmap.specs.declared.{page.Page.Page}
pub use Rattle.pcl_env.specs.{Settings.nothing_asked}
pub use Rattle.pcl_rows.proofs.Names.{Decodes, decoded}
pub use Rattle.pcl_rows.proofs.{Decoded.decoded_is}
pub use Rattle.pcl_page.proofs.{Jobs.accepted_pages, Jobs.has_pages, Jobs.rest_grows}
pub use Rattle.pcl_page.specs.{Asks.next_page}
pub use Rattle.pcl_page.specs.declared.{asks.AskedPage.AskedPage}
pub use Rattle.pcl_page.proofs.Names.{AllAlike, AreAlike, Asks, Hands, HasAsksBy, HasPagesBy, IsRefusalBy, Sheet, Shows, asks_of, at_start, exit_of, is_black, pages_of, performance}
pub use Rattle.pcl_same.specs.{Comparing.AreReadBy, Comparing.Compare, Comparing.CompareAsks, Comparing.IsAnsweredByOne, Comparing.IsAskedComparisonBy, Comparing.IsComparisonCounting, Comparing.IsAskedComparison, Comparing.IsComparedBy, Comparing.IsCompared, Comparing.IsComparedAskedBy, Comparing.IsComparedAsked, Comparing.IsComparisonBy, Comparing.IsComparison, Comparing.of_pages, Differing.DifferBy, Differing.DifferFirst, Differing.IsFirstDot, DifferingAsks.AsksDifferBy, DifferingAsks.DifferAt, DifferingAsks.ExitsDifferBy, DifferingAsks.HaveSameSettings, DifferingAsks.IsAskedBy, DifferingAsks.IsFirstSetting, DifferingAsks.as_counted, DifferingAsks.counted_exits, DifferingAsks.is_end, DifferingAsks.order_of, DifferingAsks.setting_of, DifferingDots.differ, Keeping.IsComparedBeside, Keeping.IsCountedBeside, Keeping.IsKept, Kept.KeepAll, Kept.KeepAllIfAny, Kept.KeepsMore, Kept.KeepsPicture, Kept.KeepsWithin, Kept.MakesRow, Kept.data_of, Kept.piece, Kept.picture_row_above}
pub use Rattle.pcl_same.specs.declared.{comparison.AskedComparison.AskedComparison, comparison.AsksDifference.AsksDifference, comparison.AsksDifference.TheVariants.Exit, comparison.AsksDifference.TheVariants.ExitCount, comparison.AsksDifference.TheVariants.Lasting, comparison.AskedDifference.AskedDifference, comparison.Setting.Setting, comparison.PageComparison.PageComparison, comparison.PageComparison.TheVariants.Same, comparison.Difference.Difference, comparison.Difference.TheVariants.Copies, comparison.Difference.TheVariants.Dot, comparison.Difference.TheVariants.Size, comparison.ExitDifference.ExitDifference, comparison.PagesDifference.PagesDifference, comparison.SettingDifference.SettingDifference, fault.Which.TheVariants.First, fault.Which.TheVariants.Second, fault.SameFault.SameFault, fault.SameFault.TheVariants.Memory, keeping.KeptJob.KeptJob, keeping.KeptPage.KeptPage, kept_bitmap.KeptBitmap.KeptBitmap}
pub use Rattle.pcl_same.specs.inner.{Asking.IsExitDifference, Asking.IsSettingDifference, Pages.Compared, Pages.ComparesNext, Pages.FindAll, Pages.IsAlike, Pages.PagesDifferBy, Pages.IsFirstFound, Pages.IsFoundNext, Pages.PagesDiffer, Pages.comparison_of, Rows.IsFirstBit, Rows.IsFirstDotOfRow, Rows.IsKeptPiece}
