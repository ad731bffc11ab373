pub mod Numbering
pub mod Kept
