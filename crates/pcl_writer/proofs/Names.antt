-- What proofs of this crate name of std, of the crates below, and of its own definitions; those above take these from here too.
pub use Rattle.std.proofs.lemmas.List.Concat.{flat_map-append}
pub use Rattle.std.specs.List.{flat_map}
pub use Rattle.pcl_base.proofs.{Lists.front_stays, Lists.joined_front, PageBounds.height_small, PageBounds.height_some, PageBounds.row_small, Results.on_err}
pub use Rattle.pcl_base.proofs.Names.{AllByRecursion, IsFeasible, OnOk, Walk, append-nil, arith, cases_lt, code_of, decimal, dots_per_inch, drop_more, drop_of_length-le, length-append, method_code, nat_tests, on_ok_weaker, page_height, page_row_bytes, page_width, refl, slice_index_or, total}
pub use Rattle.pcl_base.specs.declared.{dpi.Dpi.Dpi, method.Method.Method, method.Method.TheVariants.Plain, size.Size.Size}
pub use Rattle.pcl_bitmap.proofs.Names.{Picture}
pub use Rattle.pcl_bitmap.specs.declared.{page.Page.Page}
pub use Rattle.pcl_coders.proofs.{Lengths.least_alone}
pub use Rattle.pcl_coders.proofs.Names.{AppendsLeast, IsLeastLength}
pub use Rattle.pcl_output.proofs.Names.{Ends, IsLeastText, IsRowOf, IsSpelled, Leads, PrintsPage, Token, bitmap_rows, cost, end_bytes, fixed_bytes, least_spelling, method, node_after, node_number, opening, row_at, send, skip, start, start_bytes, stays_inside, token_bytes}
pub use Rattle.pcl_output.proofs.{RowsFrom.bitmap_rows_are, RowsFrom.length_rows, RowsFrom.row_of_bytes, Texts.prints_of_walk, Texts.text_length, Texts.text_of_least, Texts.widths, TokenCosts.cost_opening, TokenCosts.cost_send, Walking.node}
pub use Rattle.pcl_output.specs.declared.{node.Node.Node, step.Step.Step, step.Step.TheVariants.Row, step.Step.TheVariants.Skip, step.Step.TheVariants.Switch}
pub use Rattle.pcl_plan.proofs.{LeastWalks.few_commands, LeastWalks.sent_is_least, LeastWalks.step_is_least, ReadSteps.opened_more, ReadSteps.spells_any}
pub use Rattle.pcl_plan.proofs.Names.{IsPlan, IsPlanOf, IsTokenOf, StepsAndTable, none_follow, opened}
pub use Rattle.pcl_writer.specs.{Appending.AppendsPage, Appending.IsWrittenPage, Appending.planned_bytes}
pub use Rattle.pcl_writer.specs.inner.{Steps.AppendsBody, Steps.AppendsRow, Steps.AppendsStep, Steps.HasRowData, Steps.IsBitmapPlan, Steps.IsWritable, Steps.above, Steps.width_of}
