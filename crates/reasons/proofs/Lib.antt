pub mod LeastList
pub mod ListedLaws
pub mod Restored
pub mod Traced
