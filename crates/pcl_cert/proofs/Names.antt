-- What proofs of this crate name of std, of the crates below, and of its own definitions; those above take these from here too.
pub use Rattle.std.proofs.lemmas.List.{length-set}
pub use Rattle.std.specs.List.{flat_map}
pub use Rattle.std.specs.Prelude.{nat_eq}
pub use Rattle.pcl_base.proofs.{Lists.flat_more, Lists.front_stays, PageBounds.height_small, PageBounds.row_small}
pub use Rattle.pcl_base.proofs.Names.{AllByRecursion, IsFeasible, Vec, Width, append-nil, arith, be_bytes_2, be_bytes_4, byte_len, cases_lt, code_of, decimal, decimal_digit, decimal_step, drop-append-le, drop-drop, drop-take, drop_all, drop_at, drop_of_length-le, eq-eqb, eqb-true, err_from_is_err_and, ext_get_or, flat_map-cons, from_be_bytes, from_be_bytes-to_be_bytes_2, from_be_bytes-to_be_bytes_4, get_or-append_right, get_or-drop, get_or-replicate, get_or-set_other, get_or-set_same, get_or-take, get_or_append_left, get_or_past, le-ltb, length-append, length-drop, length-map, length-replicate, length-take, length-take-le, ltb-false, map_push, method_code, nat_lt, nat_tests, ne_eqb, nil_from_length, on_ok_weaker, option_copied, page_height, page_row_bytes, refl, row_limit, same_text, slice_index, slice_index_or, starts_with, sym, take-add, take-append-drop, take-append-le, take-take, take_at, to_be_bytes, w16, w32, ℕ}
pub use Rattle.pcl_base.specs.declared.{dpi.Dpi.Dpi, dpi.Dpi.TheVariants.Dpi300, dpi.Dpi.TheVariants.Dpi600, method.Method.Method, method.Method.TheVariants.Delta, method.Method.TheVariants.Packed, method.Method.TheVariants.Plain, method.Method.TheVariants.Runs, size.Size.Size, size.Size.TheVariants.A4, size.Size.TheVariants.Executive, size.Size.TheVariants.Legal, size.Size.TheVariants.Letter}
pub use Rattle.pcl_bitmap.proofs.Names.{Picture, row_of}
pub use Rattle.pcl_bitmap.specs.declared.{page.Page.Page}
pub use Rattle.pcl_rows.proofs.Names.{IsRowData, RowFrom, base, overlaid}
pub use Rattle.pcl_rows.proofs.{Decoded.decoded_is, Overlays.overlaid_within, Readings.plain_elements, Readings.row_of_plain}
pub use Rattle.pcl_coders.proofs.{Filling.first_bounds, Filling.first_is_least, RowWalks.length-base}
pub use Rattle.pcl_coders.proofs.Names.{IsCodable, IsLeastTable, IsRowTable}
pub use Rattle.pcl_output.proofs.{DigitCounts.count_of_some, RowsFrom.length_rows, RowsFrom.row_of_bytes, Texts.text_bounded, Texts.text_of_least, Texts.widths, TokenCosts.cost_method, TokenCosts.cost_opening, TokenCosts.cost_send, TokenCosts.method_small, TokenCosts.row_cost_small, TokenCosts.spelled_cost, Walking.above_width, Walking.node, Walking.row_width}
pub use Rattle.pcl_output.proofs.Names.{AreOfWidth, Ends, IsLeastText, IsTableOf, Leads, PrintsPage, bitmap_rows, cost, digit_count, fixed_bytes, least_spelling, method, no_numbers, node_number, opening, row_above, row_at, send, start, start_bytes}
pub use Rattle.pcl_output.specs.declared.{node.Node.Node, table.RowNumbers.RowNumbers}
pub use Rattle.pcl_check.proofs.{Beginnings.code_few, Beginnings.start_is, GoodNumbers.feasible_good, GoodNumbers.good_feasible, GoodNumbers.numbers_by_bounds, PlaceSteps.table_of_good}
pub use Rattle.pcl_check.proofs.Names.{AreGoodNumbers, BoundData, FindsPlace, IsFirstPlace, IsGoodPlace, IsLeastOfRow, raster_start}
pub use Rattle.pcl_cert.specs.{CertificateFields.ends_in_zero, CertificateFields.magic, CertificateFields.size_with_height, Certificates.AreProofs, Certificates.AreSmall, Certificates.FitFormat, Certificates.FitsFormat, Certificates.HasLists, Certificates.IsList, Certificates.IsProof, Certificates.certificate_bytes, Certificates.list_bytes, Certificates.lists_bytes, Certificates.pair_bytes, Certificates.proof_bytes, Certificates.proof_in, Certificates.proofs_in, Certificates.row_bytes, Certificates.rows_in, Certificates.table_bytes, Checking.AreEdgesGood, Checking.AreLeastOf, Checking.AreOfPage, Checking.ArePlacesGood, Checking.HasLeastLists, Checking.IsBounded, Checking.IsGoodInTables, Checking.IsVerdict, Checking.Tables, PageTables.AreLeastTables, PageTables.AreLeastTablesOf, PageTables.table_of, ReadingCertificates.FailsAs, ReadingCertificates.Gives, ReadingCertificates.beyond, ReadingCertificates.certificate_at, ReadingCertificates.contents_of, ReadingCertificates.format_at, ReadingCertificates.list_at, ReadingCertificates.list_after, ReadingCertificates.lists_at, ReadingCertificates.places_at, ReadingCertificates.proof_at, ReadingCertificates.proofs_at, ReadingCertificates.row_numbers_at, ReadingCertificates.sized, ReadingCertificates.table_at, ReadingCertificates.uint_at, RowTables.list_of, RowTables.number_at_place, RowTables.numbers_from, TablesModel.IsListAt, TablesModel.contents, TablesModel.count_at_front, TablesModel.list_from, TablesModel.lists_within}
pub use Rattle.pcl_cert.specs.declared.{check.places.BadPlace.BadPlace, fault.CertFault.CertFault, fault.CertFault.TheVariants.BadMagic, fault.CertFault.TheVariants.Extra, fault.CertFault.TheVariants.Memory, fault.CertFault.TheVariants.Places, fault.CertFault.TheVariants.Short, format.Format.Format, format.Format.TheVariants.One, format.Format.TheVariants.Two, listing.Lists.Lists, page_proof.PageProof.PageProof}
pub use Rattle.pcl_cert.specs.inner.{FirstBad.FindsBadBelow, FirstBad.FindsBadIn, Listing.AreWhole, Listing.HasListMore, Listing.HasRowMore, Listing.HoldsRows, Listing.HoldsRowsOf, Listing.IsTrimmed, Listing.listed}
