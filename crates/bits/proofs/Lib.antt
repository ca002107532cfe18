pub mod Words
pub mod TopWord
pub mod Loading
