pub mod Escaping
pub mod Nested
pub mod Members
