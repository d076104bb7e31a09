-- What proofs name of std, and of the definitions of this crate.
pub use Rattle.std.proofs.Common.{Err, List, None, Ok, Result, Some, [], ap, arith, bit_and, drop, false, inl, inr, le-leb, leb-true, length, nat_eq, nat_le, refl, rules, subst, sym, take, tests, ℕ}
pub use Rattle.std.proofs.KnownBytes.{Appends-kept, Appends-trans, Consumes-kept, Consumes-trans, Keeps-refl}
pub use Rattle.std.proofs.Math.Bool.{and-false, or-false}
pub use Rattle.std.proofs.Math.ListN.{drop_of_length-le, get_or-map, length-set, set}
pub use Rattle.std.proofs.Math.Nat.{div-div-eq-div-mul, mul-add-div_right, mul-le-mul_right, mul_assoc, mul_comm, pow-le-pow_right, pow-suc, pow-succ', zero-div}
pub use Rattle.std.proofs.Math.Numerals.{one-add, sub-one}
pub use Rattle.std.proofs.Math.Pow.{pow_mono}
pub use Rattle.std.proofs.Math.Seq.{drop-append_seam, drop-cons, drop-nil, take-add, take-append-add, take-append_seam, take-length, take-nil}
pub use Rattle.std.proofs.lemmas.Bool.{agree_below, agree_below_at, cases_Bool, cases_eq, cases_lt, cases_order, eq-eqb, eqb-false, eqb-true, false_from_ne_true, false≢true, iff_false, le-ltb, lt-ltb, ltb-false, ltb-true, ne_eqb}
pub use Rattle.std.proofs.lemmas.Bool.Decides.{Decides-eqb, nat_tests}
pub use Rattle.std.proofs.lemmas.Cmp.{nat_eq_equiv}
pub use Rattle.std.proofs.lemmas.Fmt.{decimal_by_steps, decimal_digit, decimal_step, length-decimal-le}
pub use Rattle.std.proofs.lemmas.Grind.{common_steps, div_ceil_times, flat_map-append, take_at_read}
pub use Rattle.std.proofs.lemmas.Int.{to_z-of_z, to_z_pos}
pub use Rattle.std.proofs.lemmas.Iterator.{YieldsList-from_slice}
pub use Rattle.std.proofs.lemmas.Iterator.Search.{all_from_yields_List}
pub use Rattle.std.proofs.lemmas.List.{append-nil, append_assoc, append_cancel_left, append_cancel_right, drop-append-le, drop-drop, drop-take, drop_all, drop_at, drop_min, drop_more, ext_get_or, get_or-append_right, get_or-drop, get_or-replicate, get_or-set_other, get_or-set_same, get_or-take, get_or_append_left, get_or_past, get_or_push, length-append, length-drop, length-map, length-replicate, length-take, length-take-le, map-append, map_more, map_push, nil_from_length, replicate-append-replicate, take-append-drop, take-append-le, take-replicate, take-take, take_all, take_at, take_min, take_more, take_more_same, take_rest, with_items_is}
pub use Rattle.std.proofs.lemmas.List.Concat.{flat_map-cons}
pub use Rattle.std.proofs.lemmas.List.Elements.{All-drop, All-from_get_or, All-from_recursion, All-get_or, All-more, All-nil, All-replicate, All-take, filter-append, recursion_from_All, same_from_all_zip}
pub use Rattle.std.proofs.lemmas.Map.Entries.{lookup-filter-values, option_filter}
pub use Rattle.std.proofs.lemmas.Map.Made.{lookup-map_values}
pub use Rattle.std.proofs.lemmas.Nat.{and_le_l, and_le_r, be_bytes_2, be_bytes_4, div-add-mod', div-mul-add, div_below, from_be_bytes-to_be_bytes_2, from_be_bytes-to_be_bytes_4, le-div, leading_top, mod_below, mul-le, or_of_16, pow_pos, row_fits, shl_whole, shr-shr, xor_of_8}
pub use Rattle.std.proofs.lemmas.Nat.Bits.{bit_at-lt, bit_at-trailing_zeros, bit_at-zero, bit_at_above, bit_at_and, bit_at_cat_high, bit_at_cat_low, bit_at_mask_below, bit_at_mask_inside, bit_at_not, bit_at_ones, bit_at_ones_above, bit_at_or, bit_at_xor, ones_shr, same_from_bits_below, shr_and_one}
pub use Rattle.std.proofs.lemmas.Option.{slice_get_within}
pub use Rattle.std.proofs.lemmas.Result.{err_from_is_err_and, on_err_weaker, on_ok_weaker}
pub use Rattle.std.proofs.lemmas.Simd.{bit_mask_l, get_or-chunk, get_or-zip2, length-zip2, mask_l-mod, tops_compared}
pub use Rattle.std.proofs.lemmas.Slice.Eq.{slice_eq-Decides, strip_prefix_is, strip_suffix_is}
pub use Rattle.std.specs.Bool.{then_some}
pub use Rattle.std.specs.Borrow.{Bor}
pub use Rattle.std.specs.Char.{to_ascii_uppercase}
pub use Rattle.std.specs.Cmp.Lexicographic.{same_text}
pub use Rattle.std.specs.Global.{Vec}
pub use Rattle.std.specs.Int.{Width, bit_at, byte_len, cast_signed, cast_unsigned, div_ceil, from_be_bytes, to_be_bytes, trailing_zeros, w16, w32}
pub use Rattle.std.specs.Int.Bits.{bit_xor}
pub use Rattle.std.specs.Int.Count.{count_leading_zeros}
pub use Rattle.std.specs.Int.Signed.{mag}
pub use Rattle.std.specs.Io.KnownBytes.{Appends, Consumes}
pub use Rattle.std.specs.List.{AllByRecursion, IsDistinct, prefix_len, starts_with}
pub use Rattle.std.specs.Map.{keys_of, lookup}
pub use Rattle.std.specs.Option.{SomeIff, ok_or, option_map, option_or, unwrap_or}
pub use Rattle.std.specs.Prelude.{All, Bool, IfSome, IsTrue, MatchBool, MatchOption, OnErr, OnOk, Option, codes, decimal, flat_map, is_none, is_some, map, nat_lt, not, option_copied, slice_get, slice_index, slice_index_or, true}
pub use Rattle.std.specs.Simd.Lanes.{mask_l, top, zip2}
pub use Rattle.std.specs.Str.{bytes_eq}
pub use Rattle.std.specs.Vec.{with_items}
pub use Rattle.pcl_base.specs.{Digits.AreDigits, Digits.is_digit, Digits.number_of, Dpi.dots_per_inch, Dpi.fineness, Dpi.units_per_dot, Kind.kind_name, Limits.command_limit, Limits.copies_limit, Limits.macro_limit, Limits.row_limit, Method.method_code, Method.method_with_code, Name.name_bytes, Operation.operation_of, Operation.takes_data, Refusal.refusal, Refusal.refusal_text, Size.code_of, Size.page_height, Size.page_row_bytes, Size.page_width, Size.size_with_code, Size.units_high, Value.count_of, Value.is_absent, Value.is_below_zero, Value.is_minus, Value.signed_whole, Value.whole_of, Value.with_sign, Value.zero_value, Walks.IsAttained, Walks.IsFeasible, Walks.IsLeastCost, Walks.Walk, Walks.total}
pub use Rattle.pcl_base.specs.declared.{dpi.Dpi.Dpi, size.Size.Size}
