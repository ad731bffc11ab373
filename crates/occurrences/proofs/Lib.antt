pub mod Added
pub mod Fewest
pub mod Mosts
