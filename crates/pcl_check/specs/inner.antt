-- What only proofs and contracts of private functions cite.
pub mod EdgePasses
pub mod PlacePasses
pub mod SteadyNumbers
pub mod Reading
