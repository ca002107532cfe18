pub mod Answering
pub mod MergeLaws
pub mod MergeTheorems
