-- What only proofs and contracts of private functions cite.
pub mod Reading
pub mod Rows
pub mod Filling
