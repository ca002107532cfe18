pub mod Answers
pub mod Encoding
