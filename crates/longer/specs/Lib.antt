pub mod Longer
pub mod LongerLaws
