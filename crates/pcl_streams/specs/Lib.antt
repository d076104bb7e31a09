pub mod JobFaults
pub mod Transfer
pub mod Watching
