-- What only proofs and contracts of private functions cite.
pub mod Best
pub mod Kept
pub mod Proposals
