pub mod Lowest
pub mod LowestLaws
