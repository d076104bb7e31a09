-- What proofs of this crate name of std, of the crates below, and of its own definitions; those above take these from here too.
pub use Rattle.pcl_base.proofs.Names.{macro_limit, operation_of, option_map}
pub use Rattle.pcl_base.specs.declared.{dpi.Dpi.Dpi, dpi.Dpi.TheVariants.Dpi300, kind.Kind.Kind, name.Name.Name, name.Name.TheVariants.Three, operation.Operation.Operation, operation.Operation.TheVariants.ControlMacros, profile.Profile.Profile, profile.Profile.TheVariants.Stated, refusal.Refusal.Refusal, value.Sign.TheVariants.Absent, value.Value.Value}
pub use Rattle.pcl_env.specs.{Settings.Settings, Settings.kept}
pub use Rattle.pcl_escape.proofs.Names.{Said}
pub use Rattle.pcl_macros.proofs.Names.{MacroBody}
pub use Rattle.pcl_page.proofs.Names.{Performance, Run, Situation, after_command, after_end, and_run, led_to, after_counted, defining, done, in_order, keeping_of, macro_ended, run_by, run_from, run_with, runs, step, then_on}
pub use Rattle.pcl_page.specs.declared.{macros.Action.Action, macros.Action.TheVariants.Call, macros.Keeping.Keeping, macros.Keeping.TheVariants.Ends}
pub use Rattle.pcl_unfolding.specs.{FlatList.Bodies, FlatList.Item, FlatList.PerformingIsUnfolding, FlatList.Unfolding, FlatList.add, FlatList.ago, FlatList.body_run, FlatList.body_said, FlatList.control_in, FlatList.end_of, FlatList.ended_by, FlatList.enter, FlatList.flat_list, FlatList.unrefused, FlatList.in_turn, FlatList.keeps, FlatList.now, FlatList.or_as_before, FlatList.performed, FlatList.performed_by, FlatList.return, FlatList.situations, FlatList.unfolded, FlatList.unfold_unless, FlatList.with_body, FlatList.with_command}
