pub mod DecidedLeaves
pub mod Faults
pub mod FieldNames
pub mod LeafParts
pub mod Moments
pub mod Rows
pub mod WholeReadings
