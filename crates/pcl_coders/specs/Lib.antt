pub mod RowWalks
pub mod Coding
pub mod Windows
pub mod WindowModel
pub mod Starts
pub mod inner
