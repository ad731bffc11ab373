pub mod Boards
pub mod Found
pub mod Machines
