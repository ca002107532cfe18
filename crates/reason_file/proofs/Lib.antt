pub mod Listed
pub mod Refusing
