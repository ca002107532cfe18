pub mod Freed
pub mod Most
