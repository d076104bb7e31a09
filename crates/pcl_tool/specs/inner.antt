-- What only proofs and contracts of private functions cite.
pub mod CheckerSteps
pub mod PageChecks
pub mod WrittenJobs
