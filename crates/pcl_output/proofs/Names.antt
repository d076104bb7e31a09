-- What proofs of this crate name of std, of the crates below, and of its own definitions; those above take these from here too.
pub use Rattle.std.specs.List.{flat_map}
pub use Rattle.pcl_base.proofs.Names.{AllByRecursion, AreDigits, IsFeasible, IsLeastCost, Walk, arith, cases_lt, codes, copies_limit, decimal, decimal_by_steps, drop-drop, drop_more, drop_of_length-le, get_or-drop, get_or_past, is_digit, length-append, length-decimal-le, length-drop, length-replicate, method_code, mul-le-mul_right, nat_tests, not, page_height, page_row_bytes, pow-le-pow_right, pow-succ', take-replicate, take_all, total}
pub use Rattle.pcl_base.proofs.{PageBounds.row_small, Walks.feasible_bounds}
pub use Rattle.pcl_base.specs.declared.{dpi.Dpi.Dpi, method.Method.Method, method.Method.TheVariants.Delta, method.Method.TheVariants.Packed, method.Method.TheVariants.Plain, method.Method.TheVariants.Runs, size.Size.Size}
pub use Rattle.pcl_bitmap.proofs.Names.{IsPicture, Picture}
pub use Rattle.pcl_rows.proofs.Names.{IsElement, IsRowData, Itself, Near}
pub use Rattle.pcl_output.specs.{LeastTexts.IsLeastText, LeastTexts.fixed_bytes, Nodes.AreOfWidth, Nodes.Ends, Nodes.Leads, Nodes.cost, Nodes.method_after, Nodes.node_after, Nodes.row_above, Nodes.row_after, Nodes.row_at, Nodes.start, Nodes.stays_inside, PageTables.IsTableFor, PageTables.IsTableOf, PageText.IsPageText, PageText.IsRowOf, PageText.PrintsPage, PageText.bitmap_rows, Spelling.digit_count, Spelling.least_spelling, Spelling.row_cost, Spelling.setting_cost, Spelling.switching, Table.IsSwitched, Table.by_method, Table.end_numbers, Table.inside, Table.no_numbers, Table.node_number, Table.number_in, Table.outside, Table.rest, Tokens.AreWhite, Tokens.IsSpelled, Tokens.IsWhite, Tokens.PrintsRows, Tokens.Token, Tokens.command_count, Tokens.commands_in, Tokens.end_bytes, Tokens.frame_bytes, Tokens.letter, Tokens.method, Tokens.opening, Tokens.send, Tokens.skip, Tokens.start_bytes, Tokens.token_bytes}
pub use Rattle.pcl_output.specs.declared.{by_method.ByMethod.ByMethod, node.Node.Node, table.RowNumbers.RowNumbers}
pub use Rattle.pcl_output.specs.inner.{WhiteRows.AreSkippable, WhiteRows.IsWhiteRun}
