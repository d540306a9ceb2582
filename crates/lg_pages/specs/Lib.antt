pub mod FirstPages
pub mod Numbers
