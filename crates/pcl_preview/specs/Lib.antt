pub mod Image
pub mod Greymap
pub mod Preview
pub mod PageImages
pub mod StreamedImages
pub mod inner
