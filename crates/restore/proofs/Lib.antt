pub mod Passing
pub mod Settling
