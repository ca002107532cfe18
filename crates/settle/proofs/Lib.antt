pub mod Settling
pub mod Solving
