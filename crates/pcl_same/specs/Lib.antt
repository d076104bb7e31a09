pub mod Differing
pub mod DifferingAsks
pub mod Comparing
pub mod DifferingDots
pub mod Kept
pub mod Keeping
pub mod inner
