pub mod History
pub mod Table
