pub mod Calls
pub mod Texts
pub mod Runs
