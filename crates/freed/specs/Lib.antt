pub mod Locating
pub mod Most
