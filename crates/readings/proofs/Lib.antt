pub mod Running
pub mod Fixing
