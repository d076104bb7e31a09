pub mod Files
pub mod Standing
pub mod WholeFiles
pub mod World
