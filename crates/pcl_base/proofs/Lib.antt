pub mod Names
pub mod Lists
pub mod Results
pub mod Walks
pub mod Fronts
pub mod PageBounds
