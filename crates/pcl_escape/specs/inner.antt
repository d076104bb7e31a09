-- What only proofs and contracts of private functions cite.
pub mod Scan
pub mod Lines
pub mod Fields
