pub mod PathParts
pub mod PathTexts
pub mod Results
pub mod Seen
pub mod Stops
pub mod Writes
