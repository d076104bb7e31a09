-- What proofs of this crate name of std, of the crates below, and of its own definitions; those above take these from here too.
pub use Rattle.std.specs.Prelude.{length}
pub use Rattle.pcl_base.proofs.Names.{Err, IsTrue, Ok, YieldsList-from_slice, [], all_from_yields_List, ap, arith, command_limit, drop, err_from_is_err_and, is_below_zero, is_some, macro_limit, nat_le, nat_tests, on_ok_weaker, operation_of, option_map, pow_mono, pow_pos, refl, refusal, rules, set, slice_get, slice_get_within, take_at, tests, to_z-of_z, to_z_pos, units_per_dot, w16, w32}
pub use Rattle.pcl_base.specs.{Limits.page_limit}
pub use Rattle.pcl_base.specs.contracts.{size.Size.the_type}
pub use Rattle.pcl_base.specs.declared.{dpi.Dpi.Dpi, fault.CallFault.CallFault, fault.CallFault.TheVariants.Memory, fault.CallFault.TheVariants.Refused, fault.JobFault.JobFault, kind.Kind.Kind, kind.Kind.TheVariants.CharacterData, kind.Kind.TheVariants.MacroDepth, kind.Kind.TheVariants.MacroOpen, kind.Kind.TheVariants.NoFont, kind.Kind.TheVariants.TooManyCommands, kind.Kind.TheVariants.TooManyPages, method.Method.Method, operation.Asking.Asking, operation.Asking.TheVariants.LeftOffset, operation.Asking.TheVariants.PaperSource, operation.Asking.TheVariants.SheetSide, operation.Axis.Axis, operation.Operation.Operation, operation.Operation.TheVariants.LineSpacing, operation.Operation.TheVariants.RasterResolution, operation.Operation.TheVariants.Reset, operation.Operation.TheVariants.UnitOfMeasure, profile.Profile.Profile, operation.Operation.TheVariants.Ask, operation.Operation.TheVariants.ControlFonts, operation.Operation.TheVariants.ControlMacros, operation.Operation.TheVariants.DownloadCharacter, operation.Operation.TheVariants.DownloadFont, operation.Operation.TheVariants.EndRaster, operation.Operation.TheVariants.FillRectangle, operation.Operation.TheVariants.PrintText, operation.Operation.TheVariants.RasterRow, operation.Side.Side, profile.Profile.TheVariants.Drivers, profile.Profile.TheVariants.Stated, refusal.Refusal.Refusal, size.Size.Size, value.Value.Value}
pub use Rattle.pcl_bitmap.proofs.Names.{IsSamePage, Picture, dot, raster_dot}
pub use Rattle.pcl_bitmap.specs.declared.{ink.Ink.TheVariants.Black, page.Page.Page}
pub use Rattle.pcl_env.specs.{Offset.lies_at, Outcome.AnswersAs, Outcome.Outcome, Outcome.line_spacings, Outcome.move_along, Outcome.one_of, Outcome.outcome, Outcome.popped, Outcome.resolutions, Outcome.set_method, Outcome.set_rectangle, Outcome.set_size, Outcome.stays, Outcome.units_of_measure, Settings.Position, Settings.Settings, Settings.advance, Settings.defaults, Settings.font_in_use, Settings.font_of, Settings.kept, Settings.put, Settings.put_x, Settings.restored, Settings.select, Settings.to_first_line}
pub use Rattle.pcl_env.specs.declared.{asked.Asked.Asked, effect.Effect.Effect, effect.Effect.TheVariants.Eject, effect.Effect.TheVariants.EjectMarked, effect.Effect.TheVariants.Stay, effect.Unsupported.Unsupported}
pub use Rattle.pcl_escape.proofs.Names.{Said, view}
pub use Rattle.pcl_rows.proofs.{Decoded.decoded_is}
pub use Rattle.pcl_rows.proofs.Names.{decoded}
pub use Rattle.pcl_fonts.proofs.Names.{Character, Font, FontTable, HasCharacter, Holds, character, character_in, info_of, is_character}
pub use Rattle.pcl_fonts.proofs.Histories.{holds_after}
pub use Rattle.pcl_fonts.specs.{History.font_after}
pub use Rattle.pcl_fonts.specs.declared.{header.FontInfo.FontInfo}
pub use Rattle.pcl_macros.proofs.Names.{Begun, Controls, MacroEvent, control, is_begun, macro_at}
pub use Rattle.pcl_macros.specs.declared.{table.MacroControl.MacroControl}
pub use Rattle.pcl_page.specs.{Alike.AllAlike, Alike.AreAlike, Asks.Asks, Asks.Exit, Asks.asks_of, Asks.exit_of, Asks.lasting_if, Asks.of_job, Asks.restarted, Asks.with_page, Delivering.AllShow, Delivering.DeliversBy, Delivering.Hands, Delivering.HandsOver, Delivering.IsPerformed, Delivering.IsRefusal, Delivering.IsRefusalBy, Delivering.IsStopped, Jobs.HasAsks, Jobs.HasAsksBy, Jobs.HasPages, Jobs.HasPagesBy, Macros.Run, Macros.acted, Macros.action_of, Macros.after_command, Macros.control_keeping, Macros.after_counted, Macros.defining, Macros.definition_ended, Macros.keeping_of, Macros.lasting_by, Macros.macro_ended, Macros.macro_now, Macros.after_macros, Macros.run_by, Macros.run_from, Macros.run_of, Macros.run_with, Marks.Mark, Marks.are_marked, Marks.dot_at, Marks.dots_of, Marks.is_black, Performing.Performance, Performing.Shows, Performing.after_end, Performing.and_run, Performing.asks_among, Performing.commands_left, Performing.led_to, Performing.done, Performing.end_refusal, Performing.ended, Performing.in_order, Performing.pages_of, Performing.performance, Performing.runs, Performing.step, Performing.stopped, Performing.then_on, Performing.unless, Raster.Raster, Raster.bytes_of_width, Raster.cleared_past, Raster.ends_raster, Raster.first_bits, Raster.is_below_height, Raster.is_ignored_in_raster, Raster.raster_from, Raster.row_mark, Raster.row_sent, Raster.raster_rows, Raster.scale_of, Situation.Sheet, Situation.Situation, Situation.asked_for, Situation.at_start, Situation.at_end, Situation.blank_passed, Situation.blanks_passed, Situation.code_printed, Situation.codes_printed, Situation.counted_in_limit, Situation.draw_refusal, Situation.drawn, Situation.ejects, Situation.end_raster, Situation.font_now, Situation.ink_of, Situation.is_ignored, Situation.is_marked, Situation.page_refusal, Situation.prepared, Situation.put_back, Situation.with_lasting, Situation.settings_below, Situation.sheet_of, Situation.taken, Situation.text_in, Situation.turned, Situation.turned_by, Situation.turned_page, Situation.unless_refused, Situation.with_character, Situation.with_event, Situation.within_page_limit, Situation.◌|>◌, Text.are_spaces, Text.after_blank, Text.after_character, Text.character_mark, Text.character_refusal, Text.dots_per_bit, Text.prints, Text.select_there, Text.text_refusal}
pub use Rattle.pcl_page.specs.contracts.{raster.Raster.the_view}
pub use Rattle.pcl_page.specs.declared.{accepting.Counted.Counted, interpreter.Interpreter.Interpreter, interpreter.Running.Running, macros.Action.Action, macros.Action.TheVariants.Begin, macros.Action.TheVariants.Call, macros.Action.TheVariants.Control, macros.Action.TheVariants.End, macros.Action.TheVariants.Execute, macros.Keeping.Keeping, macros.Keeping.TheVariants.Ends, macros.Keeping.TheVariants.Kept, performer.Performer.Performer, text.Printed.Printed}
pub use Rattle.pcl_page.specs.inner.{Reflecting.Draws, Reflecting.EndDone, Reflecting.HandsMore, Reflecting.HasSettings, Reflecting.IsAtCursor, Reflecting.IsDrawn, Reflecting.IsEjected, Reflecting.IsFollowed, Reflecting.IsHanded, Reflecting.IsHandled, Reflecting.IsIn, Reflecting.IsInked, Reflecting.IsLastInked, Reflecting.IsPainted, Reflecting.IsPrepared, Reflecting.IsSent, Reflecting.IsTurned, Reflecting.IsBlank, Reflecting.Takes, Reflecting.after_checked, Reflecting.drawn_character, Unfolding.Enters, Unfolding.GoesOn, Unfolding.HandsFirst, Unfolding.HasLevel, Unfolding.InterpreterEnds, Unfolding.IsActed, Unfolding.IsAsking, Unfolding.IsAt, Unfolding.IsEntered, Unfolding.IsStepped, Unfolding.begun_among, Unfolding.entered, Unfolding.left_in, Unfolding.rest_of, Unfolding.resumed, Unfolding.run_in, Unfolding.work_left}
pub use Rattle.pcl_page.proofs.{Parts.after_all, Parts.drawn_on}
