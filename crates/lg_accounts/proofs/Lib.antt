pub mod AssetMaps
pub mod Known
pub mod Named
pub mod Begun
pub mod Moved
pub mod There
pub mod Anys
