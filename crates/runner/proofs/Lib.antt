pub mod Sofar
pub mod Turning
