-- What proofs of this crate name of std, of the crates below, and of its own definitions; those above take these from here too.
pub use Rattle.indexmap.proofs.CallerLemmas.{filter-RetainsPairs}
pub use Rattle.indexmap.specs.IndexMap.{IndexMap, WritesThrough, get}
pub use Rattle.std.proofs.lemmas.Bool.{le-leb}
pub use Rattle.pcl_base.proofs.Names.{IsDistinct, None, Some, ap, arith, eq-eqb, eqb-true, false, keys_of, lookup, lookup-filter-values, lookup-map_values, nat_eq, nat_eq_equiv, nat_tests, option_filter, option_map, refl, rules, subst, sym, take_rest, then_some}
pub use Rattle.pcl_fonts.specs.{Fields.Character, Fields.Font, Fields.defined_font, Fields.has_code, Fields.has_descriptor, Fields.info_of, Fields.is_character, Fields.is_compressed, Fields.is_plain, Fields.character_rows, Fields.is_header, Fields.pattern_bytes, Fields.word, History.FontEvent, History.character, History.character_step, History.control, History.font_step, History.header, History.with_permanent, Table.Follows, Table.FontTable, Table.HasCharacter, Table.Holds, Table.IsSame, Table.character_at, Table.character_in, Table.stored_character, Table.font_at, Table.font_in, Table.font_in_header, Table.is_there, Table.printed, Table.stored_in}
pub use Rattle.pcl_fonts.specs.declared.{fonts.Entry.Entry, fonts.FontControl.FontControl, fonts.FontControl.TheVariants.MakePermanent, fonts.FontControl.TheVariants.MakeTemporary, fonts.FontControl.TheVariants.One, fonts.FontControl.TheVariants.Temporary, header.Header.Header}
