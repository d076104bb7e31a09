-- What only proofs and contracts of private functions cite.
pub mod Asking
pub mod Pages
pub mod Rows
