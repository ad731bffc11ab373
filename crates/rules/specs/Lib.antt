pub mod OneOfTwo
pub mod Rules
pub mod Texts
