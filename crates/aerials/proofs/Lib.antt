pub mod Comparing
pub mod Filling
pub mod MergedLaws
