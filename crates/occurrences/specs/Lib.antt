pub mod Figures
pub mod Texts
