pub mod Symbols
pub mod Verdicts
pub mod Sentences
