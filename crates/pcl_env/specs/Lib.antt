pub mod Settings
pub mod Offset
pub mod Outcome
pub mod Stack
pub mod Usable
pub mod Fields
