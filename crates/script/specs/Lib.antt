pub mod Complaints
pub mod Lines
pub mod Questions
pub mod Reader
pub mod Reads
pub mod Words
