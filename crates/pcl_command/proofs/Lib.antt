pub mod Names
pub mod Written
pub mod Left
pub mod SamePages
pub mod Drawn
pub mod ComparedFor
mod Finest
