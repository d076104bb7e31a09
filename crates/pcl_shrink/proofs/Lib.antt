pub mod Names
mod Smaller
pub mod Written
mod LeastJobs
mod Shorter
mod Looked
mod Asked
mod Listed
mod Found
mod Everywhere
