pub mod Lines
pub mod Arguments
pub mod Failures
pub mod Answers
