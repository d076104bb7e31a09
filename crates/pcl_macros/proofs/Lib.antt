pub mod Names
pub mod Histories
mod Permanent
mod Tables
