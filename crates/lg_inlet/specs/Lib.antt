pub mod Bodies
pub mod Finding
pub mod Reading
pub mod Taking
pub mod Unread
