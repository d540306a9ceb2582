pub mod Built
pub mod Opening
pub mod Answering
