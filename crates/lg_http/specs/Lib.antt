pub mod Bodies
pub mod Laws
pub mod Messages
pub mod Places
pub mod Texts
pub mod Writing
