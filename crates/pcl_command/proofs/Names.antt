-- What proofs of this crate name of std, of the crates below, and of its own definitions; those above take these from here too.
pub use Rattle.pcl_base.proofs.Names.{Bool, Bor, Err, Keeps-refl, List, Some, Vec, arith, err_from_is_err_and, inl, inr, length-append, refl, slice_get, true, ℕ}
pub use Rattle.pcl_base.specs.declared.{dpi.Dpi.Dpi, fault.JobFault.JobFault, profile.Profile.Profile, profile.Profile.TheVariants.Drivers, profile.Profile.TheVariants.Stated, refusal.Refusal.Refusal}
pub use Rattle.pcl_page.proofs.Names.{HasPagesBy, IsRefusal, IsRefusalBy, Sheet}
pub use Rattle.pcl_tool.proofs.Names.{AppendsFront, HasNoPage, HasPage, IsImageWritten, IsPageDots, IsWritten, RefusedOrMemory, fault_of}
pub use Rattle.pcl_tool.specs.{Writing.IsWrittenJob}
pub use Rattle.pcl_streams.specs.declared.{fault.Fault.Fault, fault.Fault.TheVariants.Memory, fault.Fault.TheVariants.NoSuchPage, fault.Fault.TheVariants.ReadFault, fault.Fault.TheVariants.Refused, fault.Fault.TheVariants.TooLong, fault.Fault.TheVariants.WriteFault}
pub use Rattle.pcl_shrink.proofs.Names.{Readers}
pub use Rattle.pcl_shrink.specs.declared.{candidate.Shrunk.Shrunk}
pub use Rattle.pcl_pages.specs.{Describing.IsDescribed}
pub use Rattle.pcl_request.specs.{Requests.performed, Requests.widest_of, Resolutions.IsSeenAt}
pub use Rattle.pcl_request.specs.declared.{profiles.Profiles.Profiles, request.CheckedFiles.CheckedFiles, request.ComparedFiles.ComparedFiles}
pub use Rattle.pcl_command.specs.{Checks.AreRead, Checks.IsAnswer, Checks.IsCheckRun, Checks.IsCheckedBeside, Checks.IsFileUnread, Comparisons.AreComparedAt, Comparisons.AreFilesSeen, Comparisons.IsCompareRun, Comparisons.IsComparedAndDrawn, Comparisons.IsComparisonFor, Comparisons.IsFiner, Comparisons.IsOneUnread, DifferenceImages.DifferInDots, DifferenceImages.IsDifferingPage, DifferenceImages.IsImageDrawn, DifferenceImages.IsImageDrawnTo, DifferenceImages.IsImageMade, DifferenceImages.dotted_page, Profiles.IsRefusedEverywhereUnder, Profiles.IsShrunkEverywhereUnder, Profiles.IsShrunkUnder, Profiles.IsWrittenEverywhereUnder, Profiles.IsWrittenUnder, Tasks.ExplainsIn, Tasks.NeverRefuses, Tasks.TellsOfPages, Tasks.WritesOrRefuses}
pub use Rattle.std.proofs.Common.{Option}
pub use Rattle.std.specs.Prelude.{false}
pub use Rattle.pcl_bitmap.proofs.Names.{Picture}
pub use Rattle.pcl_escape.proofs.{Again.fault_found_of, Again.reading_again}
pub use Rattle.pcl_escape.proofs.Names.{IsReading, Said}
pub use Rattle.pcl_tool.specs.declared.{job_verdict.CheckAnswer.CheckAnswer}
pub use Rattle.pcl_same.proofs.Names.{AreReadBy, IsAskedComparison, IsCompared, IsComparison, of_pages}
pub use Rattle.pcl_same.proofs.{OneAnswer.alike_count}
pub use Rattle.pcl_same.specs.declared.{comparison.AskedComparison.AskedComparison, comparison.AskedComparison.TheVariants.Asks, comparison.AskedComparison.TheVariants.Pages, comparison.AskedComparison.TheVariants.Same, comparison.PageComparison.PageComparison, fault.SameFault.SameFault}
pub use Rattle.pcl_messages.specs.{ComparisonLines.compare_fault_of, ComparisonLines.comparison_line_of, Verdicts.answer_line_of}
pub use Rattle.pcl_files.specs.{Files.FileAct, Files.write_fault_of, WholeFiles.IsFileRead}
pub use Rattle.pcl_messages.specs.declared.{compare_fault.CompareFault.TheVariants.Failed}
pub use Rattle.pcl_files.specs.declared.{files.FileFault.FileFault}
