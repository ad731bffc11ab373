pub mod Bringing
pub mod Carried
pub mod Empties
pub mod Everywhere
pub mod Reversals
