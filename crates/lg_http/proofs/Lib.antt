pub mod Buffering
pub mod MessageLemmas
pub mod OneMessage
pub mod TextLemmas
pub mod Wanting
