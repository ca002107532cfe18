pub mod Seeking
pub mod Putting
pub mod Order
