pub mod Asking
pub mod Digits
pub mod Fields
pub mod Sets
pub mod Words
