pub mod Requests
pub mod Resolutions
