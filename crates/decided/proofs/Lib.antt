pub mod AfterWords
pub mod Counted
pub mod DecidedBytes
pub mod DecidedLaws
pub mod DecidedTheorems
pub mod EliminatedPairs
pub mod PeeledLaws
pub mod PeelingFirst
