pub mod Meeting
pub mod Smallest
pub mod Boards
