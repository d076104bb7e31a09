-- What only proofs and contracts of private functions cite.
pub mod Expanding
pub mod Glyphs
pub mod SentRows
