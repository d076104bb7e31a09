-- What proofs of this crate name of std, of the crates below, and of its own definitions; those above take these from here too.
pub use Rattle.std.specs.List.{flat_map}
pub use Rattle.pcl_base.proofs.{Lists.flat_more, Lists.length-copied, Lists.once_each}
pub use Rattle.pcl_base.proofs.Names.{List, MatchBool, [], append-nil, arith, cases_lt, cases_order, drop-drop, drop-nil, drop_all, drop_at, drop_min, drop_more, eqb-false, eqb-true, get_or-drop, le-leb, leb-true, length, length-append, length-drop, length-replicate, length-take, length-take-le, nat_tests, nil_from_length, one-add, refl, slice_index, sym, take-add, take-append-add, take-append-drop, take-append-le, take-replicate, take-take, take_all, take_at, take_min, take_more, take_rest, ℕ}
pub use Rattle.pcl_base.specs.declared.{method.Method.Method, method.Method.TheVariants.Delta, method.Method.TheVariants.Packed, method.Method.TheVariants.Plain, method.Method.TheVariants.Runs}
pub use Rattle.pcl_rows.specs.{Decoding.Front, Decoding.base, Decoding.decoded, Decoding.front_of, Decoding.further, Decoding.literal, Elements.AreElements, Elements.Element, Elements.IsElement, Elements.IsHead, Elements.element_bytes, Elements.given, Elements.given_by, Elements.reach, Elements.stop, Heads.Count, Heads.Far, Heads.Head, Heads.IsInRange, Heads.Itself, Heads.Literal, Heads.Near, Heads.Repeat, Heads.Skipped, Heads.copies_of, Heads.head_bytes, Heads.method_of, Heads.new_count, Heads.offset_of, Rows.Decodes, Rows.IsCutIntoElements, Rows.IsRowData, Rows.IsWhole, Rows.RowFrom, Rows.after_element, Rows.after_elements, Rows.treated}
pub use Rattle.pcl_rows.specs.inner.{Fronts.Begins, Fronts.IsCutFront, Fronts.IsFront, Fronts.IsPastSkipped, Fronts.IsWholeFront, Fronts.Opens, Fronts.overlaid}
