pub mod Parts
pub mod Refusals
pub mod Sets
pub mod Stacks
