pub mod Reported
pub mod Compared
pub mod Counted
