pub mod TextVerdicts
pub mod Edges
pub mod Places
pub mod inner
