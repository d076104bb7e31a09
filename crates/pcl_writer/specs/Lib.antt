pub mod Appending
pub mod inner
