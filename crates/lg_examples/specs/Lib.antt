pub mod KeyRows
pub mod ListRows
pub mod RequestRows
pub mod Rows
pub mod Scenes
