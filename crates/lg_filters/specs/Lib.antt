pub mod AtPaths
pub mod Parts
