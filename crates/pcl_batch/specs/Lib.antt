pub mod Failing
pub mod inner
