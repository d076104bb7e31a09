-- What proofs of this crate name of std, of the crates below, and of its own definitions; those above take these from here too.
pub use Rattle.std.proofs.lemmas.Simd.{get_or-replicate}
pub use Rattle.pcl_base.proofs.Names.{All-drop, All-from_get_or, All-get_or, All-replicate, All-take, agree_below, agree_below_at, and_le_l, and_le_r, arith, bit_and, bit_at, bit_at-lt, bit_at-trailing_zeros, bit_at-zero, bit_at_above, bit_at_and, bit_at_cat_high, bit_at_cat_low, bit_at_mask_below, bit_at_mask_inside, bit_at_not, bit_at_ones, bit_at_ones_above, bit_at_or, bit_mask_l, cases_lt, div-add-mod', div-mul-add, div_below, div_ceil, div_ceil_times, eqb-true, ext_get_or, get_or-chunk, get_or-drop, get_or-take, get_or-zip2, get_or_append_left, get_or_past, le-div, length-replicate, length-take-le, length-zip2, mask_l, mask_l-mod, mod_below, mul-add-div_right, mul-le, nat_tests, ones_shr, or_of_16, page_height, page_row_bytes, page_width, pow_pos, row_fits, same_from_bits_below, shl_whole, shr-shr, shr_and_one, take_rest, to_z-of_z, top, tops_compared, trailing_zeros, with_items, with_items_is, zip2}
pub use Rattle.pcl_base.proofs.{PageBounds.height_small, PageBounds.width_small}
pub use Rattle.pcl_base.specs.declared.{dpi.Dpi.Dpi, size.Size.Size}
pub use Rattle.pcl_bitmap.specs.{Bitmap.IsPicture, Bitmap.Picture, Bitmap.bit_of_byte, Bitmap.blank_picture, Bitmap.dot, Bitmap.dot_of_row, Bitmap.row_of, Dots.dots_past, Dots.in_run, Dots.is_black_ink, Dots.pattern_bit, Dots.pattern_dot, Dots.raster_dot, Dots.rectangle_dot, Dots.run_dot, Filled.HasInk, Kernels.IsFirstDifference, Kernels.IsRunEnd, Kernels.IsTrimmedLen, Page.IsSamePage}
pub use Rattle.pcl_bitmap.specs.declared.{filled.Filled.Filled, ink.Ink.Ink, ink.Ink.TheVariants.Black}
