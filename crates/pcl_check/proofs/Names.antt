-- What proofs of this crate name of std, of the crates below, and of its own definitions; those above take these from here too.
pub use Rattle.std.proofs.lemmas.Bool.{leb-true}
pub use Rattle.std.specs.List.{flat_map}
pub use Rattle.pcl_base.proofs.{Fronts.Pass, Fronts.front_split, Lists.alike_at, Lists.all_zeros, Lists.falls_on, Lists.first_of_run, Lists.more_copies, Lists.of_parts, Lists.one_of_copies, Lists.parts_of, Lists.rest_of_alike, Lists.rest_of_run, Lists.run_byte, Lists.run_part, Lists.same_fronts, Lists.start_within, PageBounds.height_small, PageBounds.row_small}
pub use Rattle.pcl_base.proofs.Names.{All, All-from_recursion, AllByRecursion, AreDigits, Decides-eqb, IsFeasible, MatchOption, None, Option, Some, [], ap, append-nil, append_assoc, append_cancel_left, arith, bytes_eq, cases_eq, cases_lt, code_of, codes, copies_limit, decimal, dots_per_inch, drop-drop, drop_all, drop_at, eqb-true, ext_get_or, get_or-drop, get_or-replicate, get_or-set_other, get_or-set_same, get_or-take, get_or_past, iff_false, is_digit, length, length-append, length-drop, length-replicate, length-set, length-take-le, ltb-false, ltb-true, method_code, method_with_code, nat_tests, nil_from_length, not, number_of, page_height, page_row_bytes, page_width, prefix_len, recursion_from_All, refl, row_limit, rules, size_with_code, slice_eq-Decides, slice_index, strip_prefix_is, sym, take-replicate, take_all, take_at, take_rest, zero-div, ℕ}
pub use Rattle.pcl_base.specs.contracts.{size.Size.the_type}
pub use Rattle.pcl_base.specs.declared.{dpi.Dpi.Dpi, method.Method.Method, method.Method.TheVariants.Delta, method.Method.TheVariants.Packed, method.Method.TheVariants.Plain, method.Method.TheVariants.Runs, size.Size.Size}
pub use Rattle.pcl_bitmap.proofs.Names.{Picture, dot_of_row, row_of}
pub use Rattle.pcl_bitmap.specs.declared.{page.Page.Page}
pub use Rattle.pcl_rows.proofs.{Decoded.decoded_is}
pub use Rattle.pcl_rows.proofs.Names.{Element, IsRowData, IsWhole, base, given, offset_of, stop}
pub use Rattle.pcl_coders.proofs.{Choices.IsShapeElement, Choices.agrees_gives, Choices.byte_step, Choices.literal_step, Choices.repeat_step, Choices.replace_step, Choices.run_step, Ends.AreSameFrom, Ends.ends_at, Ends.ends_by, Ends.same_before, Ends.same_past, Ends.white_byte, Lengths.least_alone, Lengths.length_small, Prefixes.least_min_next, Prefixes.run_len_of, Shapes.IsRepeat, Shapes.delta_shape, Shapes.far_bytes, Shapes.near_bytes, Shapes.packed_shape, Shapes.plain_shape, Shapes.runs_shape}
pub use Rattle.pcl_coders.proofs.Names.{IsLeastLen, IsLeastLength, IsLeastOf, IsRowTable, element_of, replacement_bytes, shape_stop}
pub use Rattle.pcl_coders.specs.declared.{shape.Shape.Shape}
pub use Rattle.pcl_output.proofs.{DigitCounts.count_grows, DigitCounts.count_is, DigitCounts.count_le, DigitCounts.spelled_long, Numbers.decimal_spelled, RowsFrom.length_rows, RowsFrom.no_rows, RowsFrom.row_of_bytes, RowsFrom.rows_at, Switching.switch_cost, Switching.switching_is, Tables.number_past, TokenCosts.best_end, TokenCosts.cost_method, TokenCosts.cost_opening, TokenCosts.cost_send, TokenCosts.cost_skip, TokenCosts.method_small, TokenCosts.rest_below, TokenCosts.spelled_cost, Walking.node, Walking.white_is_zeros, WhiteRows.ink_left, WhiteRows.run_end, WhiteRows.run_more, WhiteRows.run_none, WhiteRows.skippable_within, WhiteRows.white_below, WhiteRows.white_front, WhiteRows.white_to_end}
pub use Rattle.pcl_output.proofs.Names.{AreWhite, Ends, IsPageText, IsRowOf, IsSpelled, IsWhite, IsWhiteRun, Leads, Token, bitmap_rows, cost, end_bytes, least_spelling, letter, method, node_number, opening, rest, row_above, row_at, row_cost, send, skip, start_bytes, token_bytes}
pub use Rattle.pcl_output.specs.declared.{node.Node.Node, table.RowNumbers.RowNumbers}
pub use Rattle.pcl_check.specs.{Edges.AreGoodNumbers, Edges.AreGoodSwitches, Edges.BoundData, Edges.FindsBad, Edges.IsFirstBad, Edges.IsGiven, Edges.IsGoodNumber, Edges.IsLeastOfRow, Edges.inside_code, Edges.number_at, Edges.place_of, Places.FindsBadPlace, Places.FindsPlace, Places.IsFirstPlace, Places.IsGoodPlace}
pub use Rattle.pcl_check.specs.declared.{reading.body.Place.Place, reading.parameter.Parameter.Parameter, reading.start.Start.Start}
pub use Rattle.pcl_check.specs.inner.{EdgePasses.AreEnds, EdgePasses.AreGoodSkipsOf, EdgePasses.AreGoodSkipsTo, EdgePasses.AreRunEnds, EdgePasses.At, EdgePasses.Both, EdgePasses.IsGoodBy, EdgePasses.IsGoodIn, EdgePasses.IsGoodSending, EdgePasses.IsGoodStart, EdgePasses.first_found, EdgePasses.found_place, EdgePasses.rests, EdgePasses.values, PlacePasses.AreAfterStarts, PlacePasses.AreGoodLiterals, PlacePasses.AreGoodReplacements, PlacePasses.AreGoodRuns, PlacePasses.AreGoodSteps, PlacePasses.ArePlaced, PlacePasses.AreRunStops, PlacePasses.AreStartEnds, PlacePasses.IsGoodByte, PlacePasses.IsGoodEnd, PlacePasses.IsNotUndercut, PlacePasses.first_found_place, Reading.Advances, Reading.AreRowsAt, Reading.GivesRows, Reading.IsBodyVerdict, Reading.IsOnlyPrinted, Reading.IsPaintedRow, Reading.IsParameter, Reading.IsStart, Reading.LeftOver, Reading.RestPrints, Reading.body_of, Reading.left_at, Reading.raster_start, SteadyNumbers.AreLeastSums, SteadyNumbers.FallsByRun, SteadyNumbers.FallsByStart, SteadyNumbers.IsGoodFor, SteadyNumbers.IsKeptBefore, SteadyNumbers.IsNeedEnd, SteadyNumbers.IsSteady, SteadyNumbers.TakesLater, SteadyNumbers.most_number}
