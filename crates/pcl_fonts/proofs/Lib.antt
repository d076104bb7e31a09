pub mod Names
mod Expanding
pub mod Histories
mod Patterns
mod Permanent
mod Refusals
mod Tables
