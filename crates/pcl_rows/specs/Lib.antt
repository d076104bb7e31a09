pub mod Heads
pub mod Elements
pub mod Rows
pub mod Decoding
pub mod inner
