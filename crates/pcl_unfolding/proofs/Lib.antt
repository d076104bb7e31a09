pub mod Names
pub mod Unfolded
pub mod Examples
