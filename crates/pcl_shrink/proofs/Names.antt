-- What proofs of this crate name of std, of the crates below, and of its own definitions; those above take these from here too.
pub use Rattle.pcl_base.proofs.Names.{Err, List, drop_all, Ok, Result, ap, arith, false≢true, flat_map-append, flat_map-cons, length, length-append, length-map, length-take-le, map-append, map_more, nat_tests, subst, sym, ℕ}
pub use Rattle.pcl_base.specs.declared.{dpi.Dpi.Dpi, fault.JobFault.JobFault, fault.JobFault.TheVariants.Memory, fault.JobFault.TheVariants.Refused, profile.Profile.Profile, profile.Profile.TheVariants.Drivers, profile.Profile.TheVariants.Stated, refusal.Refusal.Refusal}
pub use Rattle.pcl_bitmap.proofs.Names.{IsPicture}
pub use Rattle.pcl_output.proofs.Names.{frame_bytes}
pub use Rattle.pcl_page.proofs.{Jobs.accepted_pages, Jobs.has_pages}
pub use Rattle.pcl_page.specs.declared.asks.AskedPage.{AskedPage}
pub use Rattle.pcl_printers.specs.declared.{doubts.Doubt.Doubt, doubts.Readers.Readers}
pub use Rattle.pcl_page.specs.{Accepting.IsAccepted, Accepting.IsRefused, Asks.of_job, Performing.asks_among, Performing.performance}
pub use Rattle.pcl_page.proofs.Names.{AllAlike, Asks, Exit, Hands, HasAsksBy, HasPagesBy, IsRefusalBy, Sheet, asks_of, exit_of}
pub use Rattle.pcl_writer.proofs.Names.{IsWrittenPage}
pub use Rattle.pcl_meaning.proofs.Names.{IsJobOfBy, PrintEach, is_some, later_said, said_for}
pub use Rattle.pcl_meaning.proofs.{WrittenJobs.job_of_texts}
pub use Rattle.pcl_same.proofs.Names.{IsAskedComparisonBy, IsComparedAskedBy, IsComparedBeside, IsKept, KeepAllIfAny, KeepsWithin}
pub use Rattle.pcl_same.proofs.{Beside.all_kept_within}
pub use Rattle.pcl_same.specs.{Kept.kept_pages}
pub use Rattle.pcl_same.specs.declared.{comparison.AskedComparison.AskedComparison, comparison.AskedComparison.TheVariants.Same, fault.Which.TheVariants.Second, fault.SameFault.SameFault, keeping.KeptJob.KeptJob, keeping.KeptPage.KeptPage}
pub use Rattle.pcl_shrink.specs.{Asking.asked_at, Asking.asked_job, Asking.as_said, Asking.asked_pages, Asking.exit_text, Asking.exit_with_lines, Asking.exits_after, Asking.is_exit_after, Asking.is_reset_before, Asking.is_usual, Asking.page_start, Asking.plain_page, Looking.IsSameAlso, Looking.IsSameAt, Looking.SaysIfSame, Looking.SaysIfSameAt, Shrinking.CountsAt, Shrinking.IsRefusedEverywhere, Shrinking.IsRefusedEverywhereBy, Shrinking.IsReadBy, Shrinking.IsReadEverywhere, Shrinking.IsShrunk, Shrinking.IsShrunkAt, Shrinking.IsLeft, Shrinking.IsShrunkEverywhere, Shrinking.IsShrunkEverywhereBy, Shrinking.IsShrunkFor, Shrinking.IsShrunkTo, Shrinking.IsSmallerEverywhere, Shrinking.IsSmallerJob, Shrinking.IsSmallerJobAt, Shrinking.IsWrittenBy, Shrinking.IsWrittenEverywhere, Shrinking.IsWrittenEverywhereBy, Shrinking.IsWrittenFor, Shrinking.PrintsAlike, Texts.AreLeastTexts, Texts.PagesRead, Texts.ReadsPage, Texts.TakesText, Texts.least_of}
pub use Rattle.pcl_shrink.specs.declared.{candidate.Proposal.Proposal, candidate.Shrunk.Shrunk, keeping.KeptJobs.KeptJobs, rasters.Text.Text}
pub use Rattle.pcl_shrink.specs.inner.{Best.IsBest, Best.IsShorter, Best.best_bytes, Kept.AreKept, Kept.IsAcceptedAlso, Kept.IsKeptAlso, Kept.IsKeptAlsoIfAny, Kept.IsKeptIfAny, Kept.KeepsJobs, Proposals.IsLimit}
