pub mod Gathering
pub mod Agreeing
