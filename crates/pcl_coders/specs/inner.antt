-- What only proofs and contracts of private functions cite.
pub mod Choosing
pub mod Filling
pub mod Replacement
pub mod Shape
