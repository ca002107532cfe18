pub mod Rests
pub mod Turns
