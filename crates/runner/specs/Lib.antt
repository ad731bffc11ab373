pub mod Failures
pub mod Entries
pub mod Scripts
pub mod Turns
