pub mod Aerials
pub mod HeardLaws
