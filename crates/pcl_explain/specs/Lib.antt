pub mod Findings
pub mod Kinds
pub mod Languages
