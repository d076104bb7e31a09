-- What only proofs and contracts of private functions cite.
pub mod Choice
pub mod Comparing
pub mod Counting
pub mod Showing
pub mod Streaming
