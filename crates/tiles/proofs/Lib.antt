pub mod Flipping
pub mod Marking
