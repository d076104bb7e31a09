pub mod Shrinking
pub mod Texts
pub mod Asking
pub mod Looking
pub mod inner
