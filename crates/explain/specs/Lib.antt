pub mod Kinds
pub mod Telling
