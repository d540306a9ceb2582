pub mod MetaFold
pub mod History
pub mod Index
