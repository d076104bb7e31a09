-- What proofs of this crate name of std, of the crates below, and of its own definitions; those above take these from here too.
pub use Rattle.pcl_base.proofs.Names.{Decides-eqb, Err, List, MatchOption, arith, inr, strip_suffix_is, subst, ℕ}
pub use Rattle.std.specs.Prelude.{◌++◌, ◌≡◌, ◌≢◌}
pub use Rattle.pcl_streams.specs.declared.{fault.Fault.Fault, fault.Fault.TheVariants.Memory, fault.Fault.TheVariants.ReadFault, fault.Fault.TheVariants.TooLong}
pub use Rattle.pcl_files.specs.{Files.FileAct, WholeFiles.IsFileRead}
