-- What proofs of this crate name of std, of the crates below, and of its own definitions; those above take these from here too.
pub use Rattle.indexmap.proofs.CallerLemmas.{filter-RetainsPairs}
pub use Rattle.indexmap.specs.IndexMap.{IndexMap, WritesThrough, get}
pub use Rattle.pcl_base.proofs.Names.{IsDistinct, None, eq-eqb, eqb-true, keys_of, lookup, lookup-filter-values, lookup-map_values, nat_eq, nat_eq_equiv, nat_tests, option_filter, option_map}
pub use Rattle.pcl_macros.specs.{History.MacroBody, History.MacroEvent, History.body_step, History.control, History.defined, History.if_permanent, History.with_permanent, Table.Begun, Table.Controls, Table.Follows, Table.Holds, Table.MacroTable, Table.begun_in, Table.is_begun, Table.is_there, Table.macro_at, Table.macro_in, Table.places_of}
pub use Rattle.pcl_macros.specs.declared.{table.Body.Body, table.MacroControl.MacroControl, table.MacroControl.TheVariants.MakePermanent, table.MacroControl.TheVariants.MakeTemporary, table.MacroControl.TheVariants.One, table.MacroControl.TheVariants.Temporary}
