-- What proofs of this crate name of std, of the crates below, and of its own definitions; those above take these from here too.
pub use Rattle.std.proofs.lemmas.List.Concat.{flat_map-append}
pub use Rattle.std.specs.List.{flat_map}
pub use Rattle.pcl_base.proofs.Names.{AllByRecursion, List, and-false, cases_lt, code_of, command_limit, copies_limit, decimal, div-div-eq-div-mul, dots_per_inch, drop-drop, get_or_past, is_some, length-append, length-drop, length-replicate, macro_limit, map-append, method_code, mul_assoc, mul_comm, nat_lt, nat_tests, not, number_of, or-false, page_height, page_row_bytes, page_width, pow-suc, slice_index, takes_data, units_high, whole_of, zero_value, ℕ}
pub use Rattle.pcl_base.proofs.{PageBounds.height_small, PageBounds.width_small}
pub use Rattle.pcl_base.specs.declared.{dpi.Dpi.Dpi, dpi.Dpi.TheVariants.Dpi300, dpi.Dpi.TheVariants.Dpi600, kind.Kind.Kind, kind.Kind.TheVariants.UnsupportedCommand, method.Method.Method, method.Method.TheVariants.Plain, name.Name.Name, name.Name.TheVariants.Empty, name.Name.TheVariants.Three, operation.Axis.TheVariants.Horizontal, operation.Axis.TheVariants.Vertical, operation.Operation.Operation, operation.Operation.TheVariants.ControlFonts, operation.Operation.TheVariants.ControlMacros, operation.Operation.TheVariants.Copies, operation.Operation.TheVariants.EndRasterResetMethod, operation.Operation.TheVariants.FormFeed, operation.Operation.TheVariants.Move, operation.Operation.TheVariants.PageSize, operation.Operation.TheVariants.RasterMethod, operation.Operation.TheVariants.RasterOffset, operation.Operation.TheVariants.RasterResolution, operation.Operation.TheVariants.RasterRow, operation.Operation.TheVariants.RasterWidth, operation.Operation.TheVariants.Reset, operation.Operation.TheVariants.StartRaster, operation.Operation.TheVariants.TopMargin, operation.Unit.TheVariants.PclUnit, refusal.Refusal.Refusal, profile.Profile.Profile, profile.Profile.TheVariants.Drivers, profile.Profile.TheVariants.Stated, size.Size.Size, size.Size.TheVariants.Executive, value.Sign.TheVariants.Absent, value.Value.Value}
pub use Rattle.pcl_bitmap.proofs.{Bytes.bit_of_byte-zero, Pictures.same_dots}
pub use Rattle.pcl_bitmap.proofs.Names.{Picture, bit_of_byte, dot_of_row, raster_dot}
pub use Rattle.pcl_bitmap.specs.declared.{page.Page.Page}
pub use Rattle.pcl_env.specs.{Outcome.before_feed, Outcome.outcome, Outcome.return_carriage, Settings.Settings, Settings.copies_said, Settings.defaults, Settings.size_said, Settings.put, Settings.put_x, Settings.put_y, Settings.to_first_line, Settings.with_size}
pub use Rattle.pcl_env.specs.declared.{asked.Asked.Asked, effect.Effect.Effect}
pub use Rattle.pcl_escape.proofs.Names.{ArePieces, IsEnd, IsMiddle, IsPiece, IsPrefix, IsReading, Parameter, PassesChecks, Piece, Said, Spelled, combined, commands_from, commands_of, data_checks, field_value, first_place, in_range, is_exit, is_last, may_go_on, parameter_bytes, parameter_commands, parameter_name, prefix_bytes, spelling, two_character}
pub use Rattle.pcl_escape.proofs.{Runs.place_further}
pub use Rattle.pcl_escape.specs.declared.{step.Prefix.Prefix}
pub use Rattle.pcl_rows.proofs.Names.{IsRowData}
pub use Rattle.pcl_fonts.proofs.Names.{FontEvent, control}
pub use Rattle.pcl_fonts.specs.declared.{fonts.FontControl.TheVariants.Temporary}
pub use Rattle.pcl_macros.proofs.Names.{MacroEvent}
pub use Rattle.pcl_output.proofs.Names.{AreWhite, IsPageText, IsRowOf, IsSpelled, IsWhite, PrintsPage, Token, bitmap_rows, command_count, end_bytes, frame_bytes, method, opening, send, skip, start_bytes, token_bytes}
pub use Rattle.pcl_output.specs.{Tokens.letter}
pub use Rattle.pcl_output.proofs.{Numbers.decimal_spelled}
pub use Rattle.pcl_page.proofs.{Keeping.after_adds, Keeping.then_from, Steps.checked_as, Turns.pages_fit}
pub use Rattle.pcl_page.specs.{Asks.first_page, Asks.next_page, Asks.of_job, Asks.with_said_size}
pub use Rattle.pcl_page.specs.declared.{asks.PageStart.PageStart}
pub use Rattle.pcl_page.proofs.Names.{AllAlike, AreAlike, Asks, HasAsksBy, HasPages, HasPagesBy, Mark, Performance, Raster, Run, Sheet, Shows, Situation, after_all, after_checked, after_command, after_end, asks_among, at_start, at_end, bytes_of_width, cleared_past, done, dot_at, drawn_on, end_refusal, ends_raster, first_bits, in_order, is_black, after_macros, page_limit, pages_of, performance, raster_from, row_mark, row_sent, run_from, run_of, runs, scale_of, step, then_on, unless, with_page}
pub use Rattle.pcl_writer.proofs.Names.{IsWrittenPage}
pub use Rattle.pcl_meaning.specs.{JobTexts.IsJobOf, JobTexts.IsJobOfBy, JobTexts.IsLeastJobText, JobTexts.PrintEach, JobTexts.PrintsShortest, JobTexts.later_said, JobTexts.most_commands, JobTexts.page_said, JobTexts.said_for, JobTexts.sheet_said, PageTexts.MeansRows, PageTexts.dot_of_rows, PageTexts.job_of}
