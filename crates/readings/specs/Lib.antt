pub mod Histories
pub mod Calls
pub mod Runs
pub mod Desks
