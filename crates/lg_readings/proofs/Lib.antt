pub mod Checks
pub mod Scripts
pub mod ScriptCalls
