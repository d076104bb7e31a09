-- What proofs of this crate name of std, of the crates below, and of its own definitions; those above take these from here too.
pub use Rattle.std.proofs.lemmas.List.Concat.{flat_map-append}
pub use Rattle.std.specs.List.{flat_map}
pub use Rattle.pcl_base.proofs.{Lists.first_byte, Lists.front_stays, Lists.length-copied, Lists.once_each, Lists.run_from_rest, Lists.run_byte, Lists.run_part, Lists.single_byte, Walks.attained_is_least, Walks.feasible_bounds}
pub use Rattle.pcl_base.proofs.Names.{IsAttained, List, Walk, append-nil, arith, cases_lt, drop-drop, drop-nil, drop_all, drop_at, drop_more, ext_get_or, get_or-drop, get_or-replicate, get_or-set_other, get_or-set_same, get_or-take, get_or_past, inl, inr, length-append, length-drop, length-replicate, length-set, length-take, length-take-le, nat_tests, on_err_weaker, on_ok_weaker, refl, slice_index, subst, sym, take-append-drop, take-replicate, take_all, take_at, take_rest, total, ℕ}
pub use Rattle.pcl_base.specs.declared.{method.Method.Method, method.Method.TheVariants.Delta, method.Method.TheVariants.Packed, method.Method.TheVariants.Plain, method.Method.TheVariants.Runs}
pub use Rattle.pcl_bitmap.proofs.Names.{IsFirstDifference, IsRunEnd, IsTrimmedLen}
pub use Rattle.pcl_rows.proofs.Names.{AreElements, Count, Element, Far, Head, IsCutIntoElements, IsElement, IsInRange, IsRowData, Itself, Literal, Near, Repeat, RowFrom, Skipped, after_element, after_elements, base, copies_of, element_bytes, given, given_by, head_bytes, method_of, new_count, offset_of, overlaid, reach, stop}
pub use Rattle.pcl_rows.proofs.{Decoded.decoded_is, Overlays.overlaid_within, Readings.after_none, Readings.plain_elements, Readings.row_of_plain, Readings.some_element, Spellings.spelling_has_byte}
pub use Rattle.pcl_coders.specs.{Coding.AppendsLeast, Coding.IsCodable, Coding.IsLeastLength, RowWalks.Agrees, RowWalks.NeedsNoMore, RowWalks.IsLeastTable, RowWalks.IsRowTable, RowWalks.StepsOver, RowWalks.element_cost, Starts.IsLatestStart, Starts.StartsAt, Windows.IsLeastOf, Windows.IsQueue, Windows.Numbers}
pub use Rattle.pcl_coders.specs.declared.{shape.Shape.Shape, shape.Shape.TheVariants.LiteralRun, shape.Shape.TheVariants.RepeatRun, shape.Shape.TheVariants.Replace, shape.Shape.TheVariants.Run, shape.Shape.TheVariants.SingleByte}
pub use Rattle.pcl_coders.specs.inner.{Choosing.IsLeastLen, Choosing.IsLiteralLen, Choosing.NoLiteral, Filling.AppendsWalk, Filling.AreRightFrom, Filling.HasLiteralEnd, Filling.HasZeros, Filling.IsFirstEnd, Filling.IsLiteralEnd, Filling.IsNext, Filling.IsPlaceNumber, Filling.white_like, Replacement.replacement, Replacement.replacement_bytes, Shape.IsReplacement, Shape.IsShapeChoice, Shape.IsShapeWithin, Shape.element_of, Shape.shape_stop}
