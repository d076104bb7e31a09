pub mod Names
pub mod Appended
