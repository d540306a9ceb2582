pub mod Lent
pub mod Numerals
pub mod PathNames
pub mod Pieces
pub mod Readings
pub mod RouteLists
pub mod Routing
