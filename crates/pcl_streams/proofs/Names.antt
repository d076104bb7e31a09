-- What proofs of this crate name of std, of the crates below, and of its own definitions; those above take these from here too.
pub use Rattle.pcl_base.proofs.Names.{Appends, Appends-kept, Appends-trans, Consumes, Consumes-kept, Consumes-trans, [], append-nil, err_from_is_err_and, length-take, rules, sym, take-append-drop, take_rest}
