pub mod Names
pub mod FileReads
