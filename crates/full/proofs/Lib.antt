pub mod Answering
pub mod Deciding
pub mod FullTheorems
