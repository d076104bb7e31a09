-- What proofs of this crate name of std, of the crates below, and of its own definitions; those above take these from here too.
pub use Rattle.pcl_base.proofs.{Lists.same_fronts, Results.on_err}
pub use Rattle.pcl_base.proofs.Names.{AllByRecursion, Appends, Bor, Decides-eqb, Err, Keeps-refl, List, Some, ap, append-nil, append_cancel_left, append_cancel_right, arith, cases_eq, common_steps, drop-drop, err_from_is_err_and, false≢true, length, length-append, length-drop, length-take-le, nil_from_length, page_height, page_row_bytes, refl, rules, strip_prefix_is, strip_suffix_is, subst, sym, take-append-drop, ℕ}
pub use Rattle.pcl_base.specs.declared.{dpi.Dpi.Dpi, fault.JobFault.JobFault, method.Method.Method}
pub use Rattle.pcl_bitmap.specs.declared.{page.Page.Page}
pub use Rattle.pcl_output.proofs.Names.{IsPageText, bitmap_rows, fixed_bytes, frame_bytes, node_number, row_above, row_at, start}
pub use Rattle.pcl_output.specs.declared.{table.RowNumbers.RowNumbers}
pub use Rattle.pcl_page.proofs.Names.{Hands, HasPages, IsRefusal, Sheet, Shows}
pub use Rattle.pcl_plan.proofs.Names.{IsPlanOf, StepsAndTable}
pub use Rattle.pcl_plan.proofs.{Planned.table_of_plan}
pub use Rattle.pcl_writer.proofs.Names.{IsWrittenPage}
pub use Rattle.pcl_check.proofs.Names.{IsGoodNumber, IsGoodPlace, IsLeastOfRow}
pub use Rattle.pcl_cert.proofs.Names.{AreLeastOf, FailsAs, HasLeastLists, IsProof, IsVerdict, Tables, certificate_at, certificate_bytes, list_of, number_at_place, proof_in, table_of}
pub use Rattle.pcl_cert.proofs.{PagesSpelled.certificate_again, ProvedLeast.proved_least, TablesProved.table_certified, TablesProved.table_proved}
pub use Rattle.pcl_cert.specs.declared.{check.Verdict.Verdict, check.Verdict.TheVariants.Edge, check.Verdict.TheVariants.Length, check.Verdict.TheVariants.NotGrammar, check.Verdict.TheVariants.OtherPage, check.Verdict.TheVariants.Place, check.Verdict.TheVariants.Proved, check.Verdict.TheVariants.Rows, fault.CertFault.CertFault, format.Format.Format, format.Format.TheVariants.One, format.Format.TheVariants.Two, page_proof.PageProof.PageProof}
pub use Rattle.pcl_meaning.proofs.{Jobs.job_fits, SamePages.AreSame, SamePages.least_job, SamePages.moved, SamePages.pages_same}
pub use Rattle.pcl_meaning.proofs.Names.{IsJobOf, IsLeastJobText, PrintEach, PrintsShortest}
pub use Rattle.pcl_tool.specs.{Certified.AreProved, Certified.IsAnswered, Headline.IsLeastSameJob, Headline.TheClaim, JobVerdicts.AreCompared, JobVerdicts.IsFirstFailure, JobVerdicts.IsFramed, JobVerdicts.IsJobVerdict, JobVerdicts.text_bytes, LeastJobs.IsCertifiedBy, LeastJobs.IsLeastJobOf, Minimizing.IsCertifiedJobOf, Minimizing.IsFiltered, Minimizing.IsFilteredCert, Minimizing.IsOutputWritten, Minimizing.IsRead, Minimizing.input_limit, Writing.IsJobWritten, Writing.IsWrittenJob}
pub use Rattle.pcl_preview.specs.{Image.IsImageWritten, PageImages.IsPagesPreview, Preview.HasNoPage, Preview.HasPage, Preview.IsPageDots}
pub use Rattle.pcl_streams.specs.{JobFaults.RefusedOrMemory, JobFaults.fault_of, Transfer.AppendsFront, Transfer.IsReadAll, Transfer.IsWritten, Watching.HasTaken}
pub use Rattle.pcl_streams.specs.declared.{fault.Fault.Fault, fault.Fault.TheVariants.CertificateTooLong, fault.Fault.TheVariants.Memory, fault.Fault.TheVariants.ReadFault, fault.Fault.TheVariants.Refused, fault.Fault.TheVariants.TooLong, fault.Fault.TheVariants.WriteFault}
pub use Rattle.pcl_tool.specs.declared.{job_verdict.JobVerdict.JobVerdict, minimizing.Output.Output, page_checks.Checker.Checker}
pub use Rattle.pcl_tool.specs.inner.{CheckerSteps.BeginsWith, CheckerSteps.FindsNext, CheckerSteps.IsNewChecker, CheckerSteps.TakesPage, CheckerSteps.answer, CheckerSteps.proofs_left, PageChecks.IsFound, WrittenJobs.IsOutput, WrittenJobs.IsProvedIn, WrittenJobs.Proves, WrittenJobs.SoFar, WrittenJobs.TakesText}
