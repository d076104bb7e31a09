pub mod Compressed
pub mod Fields
pub mod History
pub mod SentRows
pub mod Table
pub mod inner
