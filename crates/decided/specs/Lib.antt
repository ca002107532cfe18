pub mod AfterLaws
pub mod Decided
pub mod Packed
pub mod Pairing
pub mod Peeling
pub mod Words
