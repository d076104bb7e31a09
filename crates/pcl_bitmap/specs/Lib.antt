pub mod Bitmap
pub mod Dots
pub mod Filled
pub mod Kernels
pub mod Page
