pub mod Certified
pub mod Minimizing
pub mod Writing
pub mod JobVerdicts
pub mod ImageVerdicts
pub mod LeastJobs
pub mod Headline
pub mod inner
