-- What proofs of this crate name of std, of the crates below, and of its own definitions; those above take these from here too.
pub use Rattle.pcl_base.proofs.Names.{IsAttained, IsFeasible, IsLeastCost, IsTrue, Walk, ap, append-nil, arith, cases_Bool, cases_lt, drop_more, drop_of_length-le, false_from_ne_true, method_code, not, take-replicate, total}
pub use Rattle.pcl_base.proofs.{Walks.attained_is_least, Walks.feasible_bounds}
pub use Rattle.pcl_base.specs.declared.{method.Method.Method, method.Method.TheVariants.Delta, method.Method.TheVariants.Packed, method.Method.TheVariants.Plain, method.Method.TheVariants.Runs}
pub use Rattle.pcl_rows.proofs.Names.{IsRowData}
pub use Rattle.pcl_coders.proofs.{Lengths.length_small}
pub use Rattle.pcl_coders.proofs.Names.{IsLeastLength}
pub use Rattle.pcl_output.proofs.{DigitCounts.count_above, DigitCounts.count_grows, DigitCounts.count_is, DigitCounts.count_le, DigitCounts.spelled_long, RowsFrom.length_rows, RowsFrom.no_rows, RowsFrom.row_of_bytes, Tables.number_past, TokenCosts.best_end, TokenCosts.cost_method, TokenCosts.cost_opening, TokenCosts.cost_send, TokenCosts.cost_skip, TokenCosts.cost_some, TokenCosts.method_small, TokenCosts.rest_below, TokenCosts.row_cost_small, TokenCosts.spelled_cost, Walking.node, WhiteRows.ink_left, WhiteRows.run_end, WhiteRows.run_more, WhiteRows.run_none, WhiteRows.skippable_within, WhiteRows.white_below, WhiteRows.white_front, WhiteRows.white_to_end}
pub use Rattle.pcl_output.proofs.Names.{AreSkippable, AreWhite, Ends, IsSwitched, IsTableFor, IsWhiteRun, Leads, Token, by_method, command_count, cost, end_numbers, inside, least_spelling, method, method_after, node_number, number_in, opening, outside, rest, row_above, row_after, row_at, row_cost, send, setting_cost, skip, start, stays_inside, switching}
pub use Rattle.pcl_output.specs.declared.{node.Node.Node, step.Step.Step, step.Step.TheVariants.Row, step.Step.TheVariants.Skip, step.Step.TheVariants.Switch, table.RowNumbers.RowNumbers}
pub use Rattle.pcl_plan.specs.{PagePlans.IsPlanOf, Plans.IsPlan, Plans.IsTokenOf, Plans.StepsAndTable, Plans.none_follow, Plans.opened}
pub use Rattle.pcl_plan.specs.declared.{rows.Rows.Rows}
pub use Rattle.pcl_plan.specs.inner.{Filling.AreRowsRightFrom, Filling.AreRowNumbers, Filling.IsDirect, Filling.IsLeastSkip, Filling.IsLeastStart, Filling.IsReadable, Filling.IsRowRight, Filling.skipping, Reading.AreLeastSteps, Reading.IsBestStep, Reading.IsNextNode, Rows.rows_of}
