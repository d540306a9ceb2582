pub mod Lent
pub mod Before
pub mod Maps
pub mod EffectiveMaps
pub mod Examples
pub mod Laws
