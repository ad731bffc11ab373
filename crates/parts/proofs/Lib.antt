pub mod Joining
pub mod SymbolSets
pub mod Taking
pub mod Sizes
