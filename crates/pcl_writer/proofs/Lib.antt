pub mod Names
pub mod Bodies
pub mod Starts
pub mod Costs
